-- Numbers that are among others, after edits.
use Rattle.std.proofs.Common.{◌≡◌, ℕ, Bool, true, false, ◌&&◌, ◌||◌, ◌++◌, List, [], ◌∷◌, ◌==◌, refl, sym, ap, subst, ◌∙◌, arith, eqb}
use Rattle.std.specs.List.{dedup, dedup_from}
use Rattle.std.proofs.lemmas.Bool.Decides.{nat_tests}
use Rattle.std.proofs.lemmas.Bool.{eqb-true}
use Rattle.std.proofs.lemmas.List.Folds.{list_any-append}
use Rattle.attr_keys.specs.shared.Rows.{has_row}

pub by_test : {G : Type 0} (b : Bool) → (b ≡ true → G) → (b ≡ false → G) → G
by_test true t f = t refl
by_test false t f = f refl

pub and_none : (a : Bool) → a && false ≡ false
and_none a = grind arith

pub or_none : (a : Bool) → a || false ≡ a
or_none a = grind arith

has_dedup_from : (row k : ℕ) (xs : List ℕ) → has_row (dedup_from eqb k xs) row ≡ has_row (k ∷ xs) row
has_dedup_from row k [] = refl
has_dedup_from row k (x ∷ xs) = grind (arith, nat_tests, eqb-true, has_dedup_from row k xs, has_dedup_from row x xs)

pub has_dedup : (row : ℕ) (xs : List ℕ) → has_row (dedup eqb xs) row ≡ has_row xs row
has_dedup row xs = grind (arith, nat_tests, has_dedup_from)

has_last : (row x : ℕ) (xs ys : List ℕ) → ys ≡ xs ++ x ∷ [] → has_row ys row ≡ has_row xs row || (x == row)
has_last row x xs ys is =
    ap (λ l. has_row l row) is ∙ list_any-append (λ r. r == row) xs (x ∷ []) ∙ ap (λ b. has_row xs row || b) (or_none (x == row))

passed : (old rows test is : Bool) → (is ≡ true → test ≡ true) → (old || (rows && test)) || is ≡ old || ((rows || is) && test)
passed old rows test is passes = grind (arith, passes)

failed : (old rows test is : Bool) → (is ≡ true → test ≡ false) → old || (rows && test) ≡ old || ((rows || is) && test)
failed old rows test is fails = grind (arith, fails)

-- those of the rows that pass a test, after one more of them was tested and passed
pub more_passed : (test : ℕ → Bool) (old found new rows more : List ℕ) (x row : ℕ) → more ≡ rows ++ x ∷ [] → new ≡ found ++ x ∷ [] → test x ≡ true →
    has_row found row ≡ has_row old row || (has_row rows row && test row) → has_row new row ≡ has_row old row || (has_row more row && test row)
more_passed test old found new rows more x row rows_are new_are passes before =
    has_last row x found new new_are ∙ ap (λ b. b || (x == row)) before
    ∙ passed (has_row old row) (has_row rows row) (test row) (x == row) (λ is. subst (λ r. test r ≡ true) (eqb-true x row is) passes)
    ∙ sym (ap (λ b. has_row old row || (b && test row)) (has_last row x rows more rows_are))

-- the same, after it failed
pub more_failed : (test : ℕ → Bool) (old found new rows more : List ℕ) (x row : ℕ) → more ≡ rows ++ x ∷ [] → new ≡ found → test x ≡ false →
    has_row found row ≡ has_row old row || (has_row rows row && test row) → has_row new row ≡ has_row old row || (has_row more row && test row)
more_failed test old found new rows more x row rows_are new_are fails before =
    ap (λ l. has_row l row) new_are ∙ before
    ∙ failed (has_row old row) (has_row rows row) (test row) (x == row) (λ is. subst (λ r. test r ≡ false) (eqb-true x row is) fails)
    ∙ sym (ap (λ b. has_row old row || (b && test row)) (has_last row x rows more rows_are))

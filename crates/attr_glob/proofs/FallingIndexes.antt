-- Indexes that fall and are just those of the lines that pass a test.
use Rattle.std.proofs.lemmas.List.{length_push, length-reverse, reverse-reverse}
use Rattle.std.proofs.Common.{◌≡◌, ◌≢◌, ℕ, suc, ◌+◌, ◌<◌, ◌≤◌, Bool, true, false, ◌||◌, List, [], ◌∷◌, ◌++◌, length, reverse}
use Rattle.std.proofs.Common.{Option, Some, None, refl, sym, ap, ◌∙◌, arith, eqb}
use Rattle.std.specs.Prelude.{slice_get}
use Rattle.std.proofs.lemmas.Bool.{eqb-true, eqb-false, ne_eqb}
use Rattle.std.proofs.lemmas.Bool.Decides.{nat_tests}
use Rattle.attr_keys.specs.shared.Rows.{has_row, IsFalling}
use Rattle.attr_glob.specs.Candidates.{indexes_where}
use Rattle.attr_wildmatch.proofs.ForCallers.{by_test, reverse-cons}

-- there is a line, which passes the test
abbrev pub passes : {X : Type 0} → (X → Bool) → Option X → Bool
passes test None = false
passes test (Some line) = test line

get_snoc_last : {X : Type 0} (xs : List X) (x : X) → slice_get (xs ++ x ∷ []) (length xs) ≡ Some x
get_snoc_last [] x = refl
get_snoc_last (y ∷ xs) x = get_snoc_last xs x

get_snoc_other : {X : Type 0} (xs : List X) (x : X) (k : ℕ) → k ≢ length xs → slice_get (xs ++ x ∷ []) k ≡ slice_get xs k
get_snoc_other (y ∷ xs) x (suc k) ne_eqb = get_snoc_other xs x k (λ e. ne_eqb (ap suc e))
get_snoc_other xs x k ne_eqb = grind (arith, nat_tests, ne_eqb)

get_past : {X : Type 0} (xs : List X) (k : ℕ) → length xs ≤ k → slice_get xs k ≡ None
get_past (x ∷ xs) (suc k) le = get_past xs k (omega arith)
get_past xs k le = grind (arith, nat_tests)

passes_within : {X : Type 0} (test : X → Bool) (xs : List X) (k : ℕ) → passes test (slice_get xs k) ≡ true → k < length xs
passes_within test (x ∷ xs) (suc k) h = let lt = passes_within test xs k h in omega arith
passes_within test xs k h = grind (arith, nat_tests)

falling_tail : (p : ℕ) (ps : List ℕ) → IsFalling (p ∷ ps) → IsFalling ps
falling_tail p ps down k lt = grind (arith, nat_tests, down (suc k))

below_head : (p : ℕ) (ps : List ℕ) → IsFalling (p ∷ ps) → (row : ℕ) → has_row ps row ≡ true → row < p
below_head p [] down row h = absurd cc
below_head p (q ∷ ps) down row h =
    grind (arith, nat_tests, by_test, eqb-true, falling_tail, down 0, below_head q ps (falling_tail p (q ∷ ps) down) row)

nothing_there : (found : List ℕ) → ((row : ℕ) → has_row found row ≡ false) → found ≡ []
nothing_there [] none = refl
nothing_there (p ∷ ps) none = grind (arith, nat_tests, none p)

-- the test passes at no further index
fewer : {X : Type 0} (test : X → Bool) (ys : List X) (x : X) (found : List ℕ) →
    has_row found (length ys) ≡ false → ((row : ℕ) → has_row found row ≡ passes test (slice_get (ys ++ x ∷ []) row)) →
    (row : ℕ) → has_row found row ≡ passes test (slice_get ys row)
fewer test ys x found none has row = grind (arith, nat_tests, eqb-true, get_past, get_snoc_other, eqb-false)

indexes_by : {X : Type 0} (test : X → Bool) (rev : List X) (found : List ℕ) → IsFalling found →
    ((row : ℕ) → has_row found row ≡ passes test (slice_get (reverse rev) row)) → found ≡ indexes_where test rev
indexes_by test [] found down has = nothing_there found has
indexes_by {X} test (x ∷ before) found down has =
    let ys = reverse before in
    let len : length ys ≡ length before = length-reverse before in
    let has' : (row : ℕ) → has_row found row ≡ passes test (slice_get (ys ++ x ∷ []) row) =
    λ row. has row ∙ ap (λ l. passes test (slice_get l row)) (reverse-cons x before) in
    let last : has_row found (length ys) ≡ test x = has' (length ys) ∙ ap (passes test) (get_snoc_last ys x) in
    by_test (test x)
    (λ t. rw t (by_head (λ l d h. indexes_by test before l d h) found down has' (last ∙ t)))
    (λ f. rw f (indexes_by test before found down (fewer test ys x found (last ∙ f) has')))
  where
    by_head : ((l : List ℕ) → IsFalling l → ((row : ℕ) → has_row l row ≡ passes test (slice_get (reverse before) row)) → l
        ≡ indexes_where test before) →
        (l : List ℕ) → IsFalling l → ((row : ℕ) → has_row l row ≡ passes test (slice_get (reverse before ++ x ∷ []) row)) →
        has_row l (length (reverse before)) ≡ true → l ≡ length before ∷ indexes_where test before
    by_head go [] d h here = absurd cc
    by_head go (p ∷ ps) d h here =
        let ys = reverse before in
        let len : length ys ≡ length before = length-reverse before in
        let self : eqb p p ≡ true = grind (arith, nat_tests) in
        let in_range : p < length (ys ++ x ∷ []) = passes_within test (ys ++ x ∷ []) p (sym (h p) ∙ ap (λ b. b || has_row ps p) self) in
        let n : length (ys ++ x ∷ []) ≡ length ys + 1 = length_push ys x in
        let same : p ≡ length ys =
        by_test (eqb p (length ys)) (λ t. eqb-true p (length ys) t)
        (λ f. let lt = below_head p ps d (length ys) (rw f at here) in absurd (omega arith)) in
        let none : has_row ps (length ys) ≡ false =
        by_test (has_row ps (length ys)) (λ t. let lt = below_head p ps d (length ys) t in absurd (omega arith)) (λ f. f) in
        let rest : (row : ℕ) → has_row ps row ≡ passes test (slice_get ys row) =
        λ row. grind (arith, nat_tests, by_test, eqb-true, get_past, eqb-false, ne_eqb, get_snoc_other) in
        ap (λ q. q ∷ ps) (same ∙ len) ∙ ap (λ l. length before ∷ l) (go ps (falling_tail p ps d) rest)

-- indexes that fall, and that pass the test, are those of the lines that pass it
pub falling_indexes : {X : Type 0} (test : X → Bool) (lines : List X) (found : List ℕ) → IsFalling found →
    ((row : ℕ) → has_row found row ≡ passes test (slice_get lines row)) → found ≡ indexes_where test (reverse lines)
falling_indexes test lines found down has = grind (arith, nat_tests, indexes_by test (reverse lines) found down, reverse-reverse lines)

-- What a sort by codes makes of numbers.
use Rattle.std.proofs.Common.{arith, ◌≡◌, ◌+◌, ℕ, Bool, List, eqb}
use Rattle.std.proofs.lemmas.Bool.Decides.{nat_tests}
use denote.Param.Members.{Mut}
use denote.Ref.{Bor}
use Rattle.std.specs.Cmp.Lexicographic.{slice_cmp, nat_list_cmp_total}
use Rattle.std.specs.Cmp.{IsStrictWeakOrder, IsTotalOrder}
use Rattle.std.specs.Fn.{Called, ComparesAs}
use Rattle.std.specs.List.{dedup}
use Rattle.std.specs.List.Sorted.{IsSorted, IsSortedBy}
use Rattle.std.specs.Ordering.{eq_by_cmp, nat_cmp}
use Rattle.std.specs.declared.cmp.Ordering.{Ordering}
use Rattle.std.proofs.lemmas.Cmp.{nat_cmp_total}
use Rattle.std.proofs.lemmas.Fn.{always_returns_same}
use Rattle.std.proofs.lemmas.List.Kept.{IsStrictlySortedBy-dedup}
use Rattle.std.proofs.lemmas.List.Sorted.{ranks_by}
use Rattle.std.proofs.lemmas.Map.Keys.{Less-from_sorted}
use Rattle.attr_keys.specs.shared.KeyContents.{KeyContent}
use Rattle.attr_keys.specs.shared.Codes.{row_codes}
use Rattle.attr_keys.specs.shared.Rows.{AreInOrder, IsFalling}

-- a sort by a closure that compares codes
pub sorted_by_codes : (keys : List KeyContent) {F : Type 0} {g : Mut F (Bor ℕ × (Bor ℕ × Unit {0})) Ordering} {f : F} (rows : List ℕ) →
    ((lt : ℕ → ℕ → Bool) → IsStrictWeakOrder lt → ComparesAs g lt f → IsSortedBy lt rows) →
    ((a : Bor ℕ × (Bor ℕ × Unit {0})) (r : Ordering) (f' : F) → Called g f a r f' →
    (r ≡ slice_cmp nat_cmp (row_codes keys a.0.now) (row_codes keys a.1.0.now)) × (f' ≡ f)) → AreInOrder keys rows
sorted_by_codes keys rows e k up h = grind (arith, nat_tests, ranks_by nat_list_cmp_total (row_codes keys), always_returns_same)

-- greater numbers come first
abbrev pub by_greater : ℕ → ℕ → Ordering
by_greater a b = nat_cmp b a

by_greater_total : IsTotalOrder by_greater
by_greater_total = record {
  antisymm = λ x y. nat_cmp_total.antisymm y x;
  trans = λ x y z a b. nat_cmp_total.trans z y x b a;
  congr = λ x y z e. grind (arith, nat_tests);
}

-- a sort by a closure that compares the other way round
pub sorted_falling : {F : Type 0} {g : Mut F (Bor ℕ × (Bor ℕ × Unit {0})) Ordering} {f : F} (rows : List ℕ) →
    ((lt : ℕ → ℕ → Bool) → IsStrictWeakOrder lt → ComparesAs g lt f → IsSortedBy lt rows) →
    ((a : Bor ℕ × (Bor ℕ × Unit {0})) (r : Ordering) (f' : F) → Called g f a r f' → (r ≡ nat_cmp a.1.0.now a.0.now) × (f' ≡ f)) →
    IsSorted by_greater rows
sorted_falling rows k h = grind (arith, nat_tests, ranks_by by_greater_total (λ row. row), always_returns_same)

-- numbers that do not rise, without repeated ones
pub falling_dedup : (rows : List ℕ) → IsSorted by_greater rows → IsFalling (dedup eqb rows)
falling_dedup rows sorted k lt =
    let strict = IsStrictlySortedBy-dedup by_greater_total (λ x y. same_greater x y) rows sorted in
    let less = Less-from_sorted by_greater (dedup eqb rows) k (k + 1) 0 strict (omega arith) lt in
    grind (arith, nat_tests, less)
  where
    same_greater : (x y : ℕ) → eqb x y ≡ eq_by_cmp by_greater x y
    same_greater x y = grind (arith, nat_tests)

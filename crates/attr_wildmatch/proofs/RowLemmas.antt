-- Rows of indexes: pushing an index, and indexes that are quiet.
use Rattle.std.proofs.Common.{◌≡◌, ◌≤◌, ◌<◌, ℕ, zero, suc, ◌+◌, ◌-◌, Bool, true, false, cond, List, [], ◌∷◌, ◌++◌, length, slice_get, filter, ◌⊎◌}
use Rattle.std.proofs.Common.{inl, inr, sym, ap, subst, append-nil, add-zero, zero-add, add-one, map-id, arith}
use Rattle.std.specs.List.{range_with_len}
use Rattle.std.proofs.lemmas.Bool.Decides.{nat_tests}
use Rattle.std.proofs.lemmas.List.FromFn.{filter_of_map_range_with_len_more}
use Rattle.attr_wildmatch.specs.declared.case.Case.{Case}
use Rattle.attr_wildmatch.specs.Tokens.{Token}
use Rattle.attr_wildmatch.specs.inner.RowIndexes.{is_dirs_at, stays_on, advances_on, token_before, indexes_below, IsRow, IsSettled, IsUnderway}
use Rattle.attr_wildmatch.proofs.Basics.{by_test, true_false}

indexes_below-more : (test : ℕ → Bool) (n : ℕ) → indexes_below test (n + 1) ≡ indexes_below test n ++ cond (test n) (n ∷ []) []
indexes_below-more test n = simp map-id at (filter_of_map_range_with_len_more test (λ (k : ℕ). k) 0 n n (zero-add n))

pub indexes_below-push : (test : ℕ → Bool) (n : ℕ) → test n ≡ true → indexes_below test (n + 1) ≡ indexes_below test n ++ n ∷ []
indexes_below-push test n h = grind (arith, nat_tests, indexes_below-more)

indexes_below-skip : (test : ℕ → Bool) (n : ℕ) → test n ≡ false → indexes_below test (n + 1) ≡ indexes_below test n
indexes_below-skip test n h = grind (arith, nat_tests, indexes_below-more, append-nil)

-- indexes that fail the test add nothing
pub indexes_below-quiet : (test : ℕ → Bool) (n d : ℕ) → ((k : ℕ) → n ≤ k → k < n + d → test k ≡ false) →
    indexes_below test (n + d) ≡ indexes_below test
    n
indexes_below-quiet test n zero h = ap (indexes_below test) (add-zero n)
indexes_below-quiet test n (suc d) h = grind (arith, nat_tests, indexes_below-skip test (n + d), indexes_below-quiet test n d)

pub indexes_below-up_to : (test : ℕ → Bool) (n m : ℕ) → n ≤ m → ((k : ℕ) → n ≤ k → k < m → test k ≡ false) →
    indexes_below test m ≡ indexes_below test n
indexes_below-up_to test n m l h = grind (arith, nat_tests, indexes_below-quiet test n (m - n))

-- an index pushed after a row
pub row-push : (ts : List Token) (fresh alive : ℕ → Bool) (row : List ℕ) (free index : ℕ) → IsRow ts fresh alive row free →
    free ≤ index → ((k : ℕ) → free ≤ k → k < index → alive k ≡ false) → alive index ≡ true →
    row ++ index ∷ [] ≡ indexes_below alive (index + 1)
row-push ts fresh alive row free index r l q a = grind (arith, nat_tests, indexes_below-up_to, indexes_below-push)

refuted : {case : Case} {ts : List Token} {b : ℕ} {fresh alive before : ℕ → Bool} {row : List ℕ} {p free : ℕ} →
    IsUnderway case ts b fresh alive before row p free → (k : ℕ) → free ≤ k + 1 → k + 1 ≤ p → k < length ts →
    (k + 1 ≡ p → stays_on (token_before ts (k + 1)) b ≡ false) → (free ≤ k → fresh k ≡ false) → fresh (k + 1) ≡ true → ⊥
refuted {case} {ts} {b} {fresh} {alive} {before} {row} {p} {free} u k l h i e r t = grind (arith, nat_tests, true_false)

-- a settled index is fresh only by the token before it, which holds it
pub silent_fresh : {case : Case} {ts : List Token} {b : ℕ} {fresh alive before : ℕ → Bool} {row : List ℕ} {p free : ℕ} →
    IsUnderway case ts b fresh alive before row p free → (k : ℕ) → free ≤ k → k ≤ p → k ≤ length ts →
    (k ≡ p → stays_on (token_before ts k) b ≡ false) → fresh k ≡ false
silent_fresh u zero l h i e = u.first (omega arith)
silent_fresh {case} {ts} {b} {fresh} {alive} {before} {row} {p} {free} u (suc k) l h i e =
    let same : k + 1 ≡ suc k = add-one k in
    grind (arith, nat_tests, by_test, refuted, silent_fresh u k)

pub silent : {case : Case} {ts : List Token} {b : ℕ} {fresh alive before : ℕ → Bool} {row : List ℕ} {p free : ℕ} →
    IsUnderway case ts b fresh alive before row p free → p ≤ length ts + 1 → (k : ℕ) → free ≤ k → k < p → alive k ≡ false
silent {case} {ts} {b} {fresh} {alive} {before} {row} {p} {free} u m k l h =
    by_test (alive k) (λ t. absurd (elim (u.step.alive_from k (omega arith) t) [
      | inl f ↦ true_false _ f (silent_fresh u k l (omega arith) (omega arith) (λ q. absurd (omega arith)))
      | inr w ↦ let z : k < free = u.settled.directory k h w.1 w.0 in absurd (omega arith)
    ])) (λ f. f)

below_or_at : (x y : ℕ) → x < y + 1 → (x < y) ⊎ (x ≡ y)
below_or_at x y e = grind arith

-- the same with the index p itself, where it doesn't stay
pub silent_next : {case : Case} {ts : List Token} {b : ℕ} {fresh alive before : ℕ → Bool} {row : List ℕ} {p free : ℕ} →
    IsUnderway case ts b fresh alive before row p free → p ≤ length ts → before p ≡ true →
    (stays_on (token_before ts p) b ≡ true → p < free) → (is_dirs_at (slice_get ts p) ≡ true → p < free) →
    (k : ℕ) → free ≤ k → k < p + 1 → alive k ≡ false
silent_next {case} {ts} {b} {fresh} {alive} {before} {row} {p} {free} u m o c d k l h = elim (below_or_at k p h) [
  | inl q ↦ silent u (omega arith) k l q
  | inr q ↦ subst (λ x. alive x ≡ false) (sym q) (here (omega arith))
]
  where
    here : free ≤ p → alive p ≡ false
    here f = by_test (alive p) (λ t. absurd (elim (u.step.alive_from p m t) [
      | inl z ↦ true_false _ z (silent_fresh u p f (omega arith) m (λ e. grind (arith, nat_tests, by_test)))
      | inr w ↦ let z : p < free = d w.0 in absurd (omega arith)
    ])) (λ z. z)

pub settled-grown : {case : Case} {ts : List Token} {b : ℕ} {before : ℕ → Bool} {p free : ℕ} (more : ℕ) →
    IsSettled case ts b before p free → free ≤ more → IsSettled case ts b before p more
settled-grown {case} {ts} {b} {before} {p} {free} more s l = grind (arith, nat_tests)

-- a row that ends with an index that is alive and not fresh
pub kept_row : (ts : List Token) (fresh alive : ℕ → Bool) (row : List ℕ) (index : ℕ) → row ≡ indexes_below alive (index + 1) →
    alive index ≡ true → fresh index ≡ false → IsRow ts fresh alive row (index + 1)
kept_row ts fresh alive row index e a f = grind (arith, nat_tests, true_false)

pub settled-skip : {case : Case} {ts : List Token} {b : ℕ} {before : ℕ → Bool} {p free : ℕ} (q : ℕ) →
    IsSettled case ts b before p free → ((k : ℕ) → p ≤ k → k < q → before k ≡ false) → IsSettled case ts b before q free
settled-skip {case} {ts} {b} {before} {p} {free} q s none = grind (arith, nat_tests, true_false, none)

pub settled-next : {case : Case} {ts : List Token} {b : ℕ} {before : ℕ → Bool} {p free : ℕ} →
    IsSettled case ts b before p free → (stays_on (token_before ts p) b ≡ true → p < free) →
    (is_dirs_at (slice_get ts p) ≡ true → p < free) → (advances_on case (slice_get ts p) b ≡ true → p + 1 < free) →
    IsSettled case ts b before (p + 1) free
settled-next {case} {ts} {b} {before} {p} {free} s c d e = record {
  stay = λ k h o t. grind (arith, nat_tests, below_or_at);
  directory = λ k h o t. elim (below_or_at k p h) [
    | inl q ↦ s.directory k q o t
    | inr q ↦ let z : p < free = d (subst (λ x. is_dirs_at (slice_get ts x) ≡ true) q t) in omega arith
  ];
  advance = λ k h o t. elim (below_or_at k p h) [
    | inl q ↦ s.advance k q o t
    | inr q ↦ let z : p + 1 < free = e (subst (λ x. advances_on case (slice_get ts x) b ≡ true) q t) in omega arith
  ];
}

-- the first of the numbers from p on that pass
pub record FirstOf (test : ℕ → Bool) (p d q : ℕ) (others : List ℕ) : Type 0 where
  pub left : ℕ
  pub end : q + 1 + left ≡ p + d
  pub from : p ≤ q
  pub passes : test q ≡ true
  pub none : (k : ℕ) → p ≤ k → k < q → test k ≡ false
  pub others_are : others ≡ filter test (range_with_len (q + 1) left)

pub first_of_indexes : (test : ℕ → Bool) (d p q : ℕ) (others : List ℕ) → q ∷ others ≡ filter test (range_with_len p d) → FirstOf test p d q others
first_of_indexes test zero p q others h = cc
first_of_indexes test (suc d) p q others h = grind (arith, nat_tests, by_test, filter, first_of_indexes test d (p + 1) q others)

pub none_of_indexes : (test : ℕ → Bool) (d p : ℕ) → [] ≡ filter test (range_with_len p d) → (k : ℕ) → p ≤ k → k < p + d → test k ≡ false
none_of_indexes test zero p h k l m = absurd (omega arith)
none_of_indexes test (suc d) p h k l m = grind (arith, nat_tests, none_of_indexes test d)

-- the empty row
pub empty_row : (ts : List Token) (fresh alive : ℕ → Bool) (row : List ℕ) → row ≡ [] → IsRow ts fresh alive row 0
empty_row ts fresh alive row e = grind (arith, nat_tests)

pub settled-none : (case : Case) (ts : List Token) (b : ℕ) (before : ℕ → Bool) (free : ℕ) → IsSettled case ts b before 0 free
settled-none case ts b before free = grind (arith, nat_tests)

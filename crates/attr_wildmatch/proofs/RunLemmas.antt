-- A row moved over a value: what it holds after each byte, and how many indexes were visited.
use Rattle.std.proofs.Common.{◌≡◌, ◌≤◌, ◌<◌, ◌+◌, ◌*◌, ◌-◌, ℕ, zero, suc, Bool, true, false, List, [], ◌∷◌, ◌++◌, length, take, reverse, slice_get}
use Rattle.std.proofs.Common.{get_or, filter, sum_by, count_by, All, refl, sym, ap, subst, ◌∙◌, arith, add-zero, add-one, zero-add, map-id}
use Rattle.std.specs.List.{range_with_len}
use Rattle.std.proofs.lemmas.Bool.Decides.{nat_tests}
use Rattle.std.proofs.lemmas.List.{reverse-append, reverse-reverse, take_more, take_all}
use Rattle.std.proofs.lemmas.List.Sums.{count_by-le-length, length-filter, sum_by-le-sum_by, sum_by-append}
use Rattle.std.proofs.lemmas.List.FromFn.{length-range_with_len, map-range_with_len_more}
use Rattle.std.proofs.lemmas.Option.{slice_get_past}
use Rattle.attr_wildmatch.specs.declared.case.Case.{Case}
use Rattle.attr_wildmatch.specs.Tokens.{Token}
use Rattle.attr_wildmatch.specs.inner.Bordered.{is_bordered}
use Rattle.attr_wildmatch.specs.Matching.{Match, ReachedAtMost, pairs_passed}
use Rattle.attr_wildmatch.specs.inner.RowIndexes.{indexes_below, IsStep, IsRow, IsUnderway}
use Rattle.attr_wildmatch.proofs.Basics.{by_test, true_false, Each, all_of_each}
use Rattle.attr_wildmatch.proofs.RowLemmas.{indexes_below-up_to, silent, empty_row}
use Rattle.attr_wildmatch.proofs.Reached.{fresh, alive, match_of_reached, reached_of_match}
use Rattle.attr_wildmatch.proofs.ReachedSteps.{growing, alive-plain}
use Rattle.attr_wildmatch.proofs.ReachedRules.{steps, starts, alive-nil}

-- after the first j bytes
abbrev pub first_bytes : List ℕ → ℕ → List ℕ
first_bytes value j = reverse (take j value)

-- index k is alive after the first j bytes
abbrev pub alive_at : Case → List Token → List ℕ → ℕ → ℕ → Bool
alive_at case ts value k j = alive case ts (first_bytes value j) k

range-more : (m a : ℕ) → range_with_len a (m + 1) ≡ range_with_len a m ++ (a + m) ∷ []
range-more m a = simp map-id at (map-range_with_len_more (λ (k : ℕ). k) a m (a + m) refl)

pub pairs-more : (test : ℕ → ℕ → Bool) (n i : ℕ) →
    pairs_passed test n (i + 1) ≡ pairs_passed test n i + count_by (λ k. test k (i + 1)) (range_with_len 0 (n + 1))
pairs-more test n i = grind (arith, nat_tests, range-more (i + 1) 0, zero-add (i + 1), count_by, sum_by, sum_by-append)

-- The row after i bytes, with the first index after all in it, and the visits so far.
pub record IsAt (case : Case) (ts : List Token) (value row : List ℕ) (free visits i : ℕ) : Type 0 where
  pub row_is : row ≡ indexes_below (λ k. alive_at case ts value k i) (length ts + 1)
  pub last : (k : ℕ) → k + 1 ≡ free → alive_at case ts value k i ≡ true
  pub beyond : (k : ℕ) → free ≤ k → k ≤ length ts → alive_at case ts value k i ≡ false
  pub bound : free ≤ length ts + 1
  pub counted : visits ≡ pairs_passed (alive_at case ts value) (length ts) i
  pub paid : free ≤ visits
  pub most : visits ≤ (length ts + 1) * (i + 1)

row-whole : (case : Case) (ts : List Token) (v row : List ℕ) (free : ℕ) → IsRow ts (fresh case ts v) (alive case ts v) row free →
    free ≤ length ts + 1 → ((k : ℕ) → free ≤ k → k ≤ length ts → alive case ts v k ≡ false) → row ≡ indexes_below (alive case ts v) (length ts + 1)
row-whole case ts v row free r l b = r.kept ∙ sym (indexes_below-up_to (alive case ts v) free (length ts + 1) l (λ k x y. b k x (omega arith)))

length-indexes_below : (test : ℕ → Bool) (n : ℕ) (row : List ℕ) → row ≡ indexes_below test n → length row ≡ count_by test (range_with_len 0 n)
length-indexes_below test n row e = ap length e ∙ length-filter test (range_with_len 0 n)

length-row : (test : ℕ → Bool) (n : ℕ) (row : List ℕ) → row ≡ indexes_below test n → length row ≤ n
length-row test n row e = grind (arith, nat_tests, length-indexes_below, count_by-le-length test (range_with_len 0 n), length-range_with_len)

-- at the start no index after the row is fresh
start_quiet : (case : Case) (ts : List Token) (row : List ℕ) (free : ℕ) → IsRow ts (fresh case ts []) (alive case ts []) row free → 0 < free →
    (k : ℕ) → free ≤ k → k ≤ length ts → fresh case ts [] k ≡ false
start_quiet case ts row free r p zero l m = absurd (omega arith)
start_quiet case ts row free r p (suc k) l m =
    let quiet = start_quiet case ts row free r p k in
    let closed = r.closed k in
    let same = add-one k in
    by_test (fresh case ts [] (suc k))
    (λ t. let w = starts case ts k (omega arith) (ap (fresh case ts []) same ∙ t) in grind (arith, true_false, quiet, closed, w))
    (λ f. f)

pub at_start : (case : Case) (ts : List Token) (value row : List ℕ) (free : ℕ) →
    IsRow ts (fresh case ts []) (alive case ts []) row free → 0 < free → free ≤ length ts + 1 → free ≤ length row →
    IsAt case ts value row free (length row) 0
at_start case ts value row free r p l q =
    let none : (k : ℕ) → free ≤ k → k ≤ length ts → alive case ts [] k ≡ false =
    λ k a b. alive-nil case ts k ∙ start_quiet case ts row free r p k a b in
    let whole = row-whole case ts [] row free r l none in
    grind (arith, nat_tests, length-indexes_below, alive, zero-add, count_by, length-row)

next_bytes : (value : List ℕ) (i : ℕ) → i < length value → first_bytes value (i + 1) ≡ get_or value i 0 ∷ first_bytes value i
next_bytes value i h = ap reverse (take_more value i 0 h) ∙ reverse-append (take i value) (get_or value i 0 ∷ [])

pub step_at : (case : Case) (ts : List Token) (value : List ℕ) (i : ℕ) → is_bordered true ts ≡ true → i < length value →
    IsStep case ts (get_or value i 0) (fresh case ts (first_bytes value (i + 1))) (alive case ts (first_bytes value (i + 1)))
    (alive case ts (first_bytes value i))
step_at case ts value i bordered h =
    subst (λ x. IsStep case ts (get_or value i 0) (fresh case ts x) (alive case ts x) (alive case ts (first_bytes value i)))
    (sym (next_bytes value i h)) (steps case ts (get_or value i 0) (first_bytes value i) bordered)

pub fresh-first : (case : Case) (ts : List Token) (value : List ℕ) (i : ℕ) → i < length value → fresh case ts (first_bytes value (i + 1)) 0 ≡ false
fresh-first case ts value i h = ap (λ x. fresh case ts x 0) (next_bytes value i h)

pub at_more : (case : Case) (ts : List Token) (value row next : List ℕ) (free more visits i : ℕ) → IsAt case ts value row free visits i →
    i < length value → IsRow ts (fresh case ts (first_bytes value (i + 1))) (alive case ts (first_bytes value (i + 1))) next more →
    ((k : ℕ) → more ≤ k → k ≤ length ts → alive case ts (first_bytes value (i + 1)) k ≡ false) → more ≤ length ts + 1 →
    more ≤ free + length next → IsAt case ts value next more (visits + length next) (i + 1)
at_more case ts value row next free more visits i a h r none l q =
    let whole = row-whole case ts (first_bytes value (i + 1)) next more r l none in
    grind (arith, nat_tests, length-indexes_below, alive, pairs-more, length-row)

pub below_free : (case : Case) (ts : List Token) (value row : List ℕ) (free visits i : ℕ) → IsAt case ts value row free visits i → All (λ k. k < free)
    row
below_free case ts value row free visits i a =
    let test : ℕ → Bool = λ k. alive_at case ts value k i in
    let e : row ≡ indexes_below test free =
    a.row_is ∙ indexes_below-up_to test free (length ts + 1) a.bound (λ k x y. a.beyond k x (omega arith)) in
    subst (All (λ k. k < free)) (sym e) (all_of_each (λ k. k < free) (indexes_below test free) (below test free 0 free (omega arith)))
  where
    below : (test : ℕ → Bool) (n a most : ℕ) → a + n ≤ most → Each (λ k. k < most) (filter test (range_with_len a n))
    below test zero a most h = tt
    below test (suc n) a most h = grind (arith, nat_tests, by_test, below test n (a + 1) most)

-- where no index is alive, none is after the next byte
dead_more : (case : Case) (ts : List Token) (value row : List ℕ) (visits i : ℕ) → is_bordered true ts ≡ true →
    IsAt case ts value row 0 visits i → i < length value → IsAt case ts value [] 0 visits (i + 1)
dead_more case ts value row visits i bordered a h =
    let more = first_bytes value (i + 1) in
    let empty = empty_row ts (fresh case ts more) (alive case ts more) [] refl in
    let none : (k : ℕ) → k ≤ length ts → alive_at case ts value k i ≡ false = λ k l. a.beyond k (omega arith) l in
    let u : IsUnderway case ts (get_or value i 0) (fresh case ts more) (alive case ts more) (alive case ts (first_bytes value i)) []
    (length ts + 1) 0 = record {
      step = step_at case ts value i bordered h;
      first = λ e. fresh-first case ts value i h;
      row_is = empty;
      settled = grind (arith, nat_tests, true_false);
    } in
    subst (λ x. IsAt case ts value [] 0 x (i + 1)) (add-zero visits)
    (at_more case ts value row [] 0 0 visits i a h empty (λ k l m. silent u (omega arith) k l (omega arith)) (omega arith) (omega arith))

alive_of_match : (case : Case) (ts : List Token) (value : List ℕ) (k j : ℕ) → Match case (take k ts) (take j value) → alive_at case ts value k j ≡
    true
alive_of_match case ts value k j m =
    (growing case ts (first_bytes value j)).living k
    (reached_of_match case (reverse (take k ts)) (take j value) (subst (λ x. Match case x (take j value)) (sym (reverse-reverse (take k ts))) m))

missed : (case : Case) (ts : List Token) (value : List ℕ) (visits : ℕ) → pairs_passed (alive_at case ts value) (length ts) (length value) ≤ visits →
    ReachedAtMost case ts value visits
missed case ts value visits h = grind (arith, nat_tests, sum_by-le-sum_by, growing, reached_of_match, reverse-reverse)

match_of_last : (case : Case) (ts : List Token) (value : List ℕ) → alive_at case ts value (length ts) (length value) ≡ true → Match case ts value
match_of_last case ts value h =
    let fact4 = slice_get_past ts (length ts) in
    let fact = match_of_reached case (reverse (take (length ts) ts)) in
    let fact3 = reverse-reverse (take (length ts) ts) in
    let fact2 = reverse-reverse (take (length value) value) in
    grind (arith, nat_tests, fact4, alive-plain case ts, fact, fact3, take_all (length ts) ts, fact2, take_all (length value) value, slice_get)

last_of_match : (case : Case) (ts : List Token) (value : List ℕ) → Match case ts value → alive_at case ts value (length ts) (length value) ≡ true
last_of_match case ts value m = grind (arith, nat_tests, alive_of_match, take_all)

-- at the end of the value
pub matched_at_end : (case : Case) (ts : List Token) (value row : List ℕ) (free visits : ℕ) → IsAt case ts value row free visits (length value) →
    ((free ≡ length ts + 1) → Match case ts value) × (Match case ts value → free ≡ length ts + 1)
matched_at_end case ts value row free visits a = grind (arith, nat_tests, match_of_last, true_false, last_of_match)

pub missed_at_end : (case : Case) (ts : List Token) (value row : List ℕ) (free visits : ℕ) → IsAt case ts value row free visits (length value) →
    ReachedAtMost case ts value visits
missed_at_end case ts value row free visits a = missed case ts value visits (omega (arith, a.counted))

-- where no index is alive, none is at the end of the value
dead_end : (case : Case) (ts : List Token) (value row : List ℕ) (visits i d : ℕ) → is_bordered true ts ≡ true →
    IsAt case ts value row 0 visits i → i + d ≡ length value → (last : List ℕ) × IsAt case ts value last 0 visits (length value)
dead_end case ts value row visits i zero bordered a e = (row, subst (IsAt case ts value row 0 visits) (sym (add-zero i) ∙ e) a)
dead_end case ts value row visits i (suc d) bordered a e =
    dead_end case ts value [] visits (i + 1) d bordered (dead_more case ts value row visits i bordered a (omega arith)) (omega arith)

pub dead : (case : Case) (ts : List Token) (value row : List ℕ) (free visits i : ℕ) → is_bordered true ts ≡ true →
    IsAt case ts value row free visits i → free ≡ 0 → i ≤ length value → (Match case ts value → ⊥) × ReachedAtMost case ts value visits
dead case ts value row free visits i bordered a none l =
    let e = dead_end case ts value row visits i (length value - i) bordered (subst (λ x. IsAt case ts value row x visits i) none a) (omega arith) in
    ((λ m. absurd (let f = (matched_at_end case ts value e.0 0 visits e.1).1 m in omega arith)), missed_at_end case ts value e.0 0 visits e.1)

-- Rows in the order of their keys, of which those are sought that a text begins with.
use Rattle.std.proofs.Common.{◌≡◌, ◌≢◌, ℕ, zero, suc, ◌-◌, ◌<◌, ◌≤◌, ◌⊎◌, Bool, true, false, not, ◌&&◌, ◌||◌, List, [], ◌∷◌, ◌++◌}
use Rattle.std.proofs.Common.{length, drop, take, get_or, refl, sym, ap, ◌∙◌, arith, eqb, leb, nat_eq}
use Rattle.std.specs.Cmp.Lexicographic.{slice_cmp, nat_list_cmp_total}
use Rattle.std.specs.List.{starts_with}
use Rattle.std.specs.List.Sorted.{IsPartitionedBy}
use Rattle.std.specs.Ordering.{nat_cmp, is_lt}
use Rattle.std.proofs.Math.Seq.{drop-cons}
use Rattle.std.proofs.lemmas.Bool.{eqb-true, not-true}
use Rattle.std.proofs.lemmas.Bool.Decides.{nat_tests}
use Rattle.std.proofs.lemmas.List.{get_or-drop, length-drop}
use Rattle.std.proofs.lemmas.List.Folds.{list_any-append}
use Rattle.std.proofs.lemmas.List.Sorted.{ranks_by, sorted_far}
use Rattle.attr_keys.specs.shared.KeyContents.{KeyContent}
use Rattle.attr_keys.specs.shared.Codes.{codes_of, row_codes}
use Rattle.attr_keys.specs.shared.Rows.{AreAllLinked, AreInOrder, IsCommon, IsLink, has_row, is_up_to}
use Rattle.attr_keys.proofs.RowLemmas.{and_none, by_test}

-- what a text begins with is not after it
begun_before : (text key : List ℕ) → starts_with nat_eq text key ≡ true → is_lt (slice_cmp nat_cmp text key) ≡ false
begun_before (d ∷ t) (c ∷ q) h = grind (arith, nat_tests, eqb-true, begun_before t q)
begun_before text key h = grind (arith, nat_tests)

-- what stands between a text and what this begins with begins with it, too
between_begins : (key mid text : List ℕ) → is_lt (slice_cmp nat_cmp mid key) ≡ false → is_lt (slice_cmp nat_cmp text mid) ≡ false →
    starts_with nat_eq text key ≡ true → starts_with nat_eq mid key ≡ true
between_begins (c ∷ q) (a ∷ m) (d ∷ t) low high h = grind (arith, nat_tests, eqb-true, between_begins q m t)
between_begins key mid text low high h = grind (arith, nat_tests)

far : (keys : List KeyContent) (rows : List ℕ) → AreInOrder keys rows → (i j : ℕ) → i ≤ j → j < length rows →
    is_lt (slice_cmp nat_cmp (row_codes keys (get_or rows j 0)) (row_codes keys (get_or rows i 0))) ≡ false
far keys rows order i j ij within =
    sorted_far (λ x y. is_lt (slice_cmp nat_cmp (row_codes keys x) (row_codes keys y))) (ranks_by nat_list_cmp_total (row_codes keys)) rows order
    i j 0 ij within

-- no key between a link's end and its row is one that the text begins with
pub none_between : (keys : List KeyContent) (rows : List ℕ) (text : List ℕ) (index end : ℕ) → AreInOrder keys rows → index < length rows →
    is_up_to text (row_codes keys (get_or rows index 0)) ≡ true → IsLink keys rows index end → (k : ℕ) → end ≤ k → k < index →
    starts_with nat_eq text (row_codes keys (get_or rows k 0)) ≡ false
none_between keys rows text index end order within up link k le lt = grind (arith, nat_tests, between_begins, far, not-true)

-- a shorter link, if the row before the old end is none
pub link_less : (keys : List KeyContent) (rows : List ℕ) (index end end' : ℕ) → AreInOrder keys rows → index < length rows → 0 < end →
    IsLink keys rows index end → starts_with nat_eq (row_codes keys (get_or rows index 0)) (row_codes keys (get_or rows (end - 1) 0)) ≡ false →
    IsLink keys rows (end - 1) end' → IsLink keys rows index end'
link_less keys rows index end end' order within some link other before =
    let bound = before.bound in
    let bound' = link.bound in
    record {
      bound = omega (arith, bound, bound', some);
      none = λ k le lt. by_test (leb end k)
          (λ t. link.none k (at_least end k t) lt)
          (λ f. by_test (eqb k (end - 1))
          (λ t. grind (arith, nat_tests, nat_eq, eqb-true))
          (λ g.
          let less = earlier end k f g in
          none_between keys rows (row_codes keys (get_or rows index 0)) (end - 1) end' order (omega (arith, bound', some, within))
          (ap not (far keys rows order (end - 1) index (omega (arith, bound')) within)) before k le less));
    }
  where
    at_least : (a b : ℕ) → leb a b ≡ true → a ≤ b
    at_least a b t = grind (arith, nat_tests)

    earlier : (a b : ℕ) → leb a b ≡ false → eqb b (a - 1) ≡ false → b < a - 1
    earlier a b f g = grind (arith, nat_tests)

-- rows that pass no test
none_in : (has : ℕ → Bool) (xs : List ℕ) (row : ℕ) → ((k : ℕ) → k < length xs → has (get_or xs k 0) ≡ false) → has_row xs row && has row ≡ false
none_in has [] row none = refl
none_in has (x ∷ xs) row none =
    by_test (eqb x row)
    (λ t. ap (λ b. (eqb x row || has_row xs row) && b) (ap has (sym (eqb-true x row t)) ∙ none 0 (omega arith))
    ∙ and_none (eqb x row || has_row xs row))
    (λ f. rw f (none_in has xs row (λ k lt. none (suc k) (omega arith))))

-- rows that pass no test are skipped
skipped : (has : ℕ → Bool) (rows : List ℕ) (from to row : ℕ) → from ≤ to → ((k : ℕ) → from ≤ k → k < to → has (get_or rows k 0) ≡ false) →
    has_row (drop from rows) row && has row ≡ has_row (drop to rows) row && has row
skipped has rows zero zero row le none = refl
skipped has [] zero (suc to) row le none = refl
skipped has [] (suc from) zero row le none = refl
skipped has [] (suc from) (suc to) row le none = refl
skipped has (x ∷ xs) (suc from) zero row le none = absurd (omega arith)
skipped has (x ∷ xs) (suc from) (suc to) row le none =
    skipped has xs from to row (omega arith) (λ k a b. none (suc k) (omega arith) (omega arith))
skipped has (x ∷ xs) zero (suc to) row le none =
    by_test (eqb x row)
    (λ t.
    let fails = ap has (sym (eqb-true x row t)) ∙ none 0 (omega arith) (omega arith) in
    grind (arith, nat_tests, and_none))
    (λ f. rw f (skipped has xs zero to row (omega arith) (λ k a b. none (suc k) (omega arith) (omega arith))))

-- one more row, after those that were skipped
last_row : (has : ℕ → Bool) (rows : List ℕ) (index end row : ℕ) → index < length rows → end ≤ index →
    ((k : ℕ) → end ≤ k → k < index → has (get_or rows k 0) ≡ false) →
    has_row (drop end rows) row && has row ≡ (eqb (get_or rows index 0) row || has_row (drop (suc index) rows) row) && has row
last_row has rows index end row lt le none = grind (arith, nat_tests, skipped has rows end index row le none, drop-cons rows index 0 lt)

-- no row between the lesser of two ends and a row
none_lesser : (has : ℕ → Bool) (rows : List ℕ) (index end other least : ℕ) → (least ≡ end) ⊎ (least ≡ other) →
    ((k : ℕ) → end ≤ k → k < index → has (get_or rows k 0) ≡ false) → ((k : ℕ) → other ≤ k → k < index → has (get_or rows k 0) ≡ false) →
    (k : ℕ) → least ≤ k → k < index → has (get_or rows k 0) ≡ false
none_lesser has rows index end other least h one two k le lt = grind (arith, nat_tests)

-- the rows from an end on whose keys a text has were appended, and no row before the end is after the text
pub record IsAppended (keys : List KeyContent) (rows text old : List ℕ) (end : ℕ) (now : List ℕ) : Type 0 where
  pub bound : end ≤ length rows
  pub up_to : (k : ℕ) → k < end → is_up_to text (row_codes keys (get_or rows k 0)) ≡ true
  pub found : (row : ℕ) → has_row now row ≡ has_row old row || (has_row (drop end rows) row && starts_with nat_eq text (row_codes keys row))

-- the row before the end, whose link is known
module _ (keys : List KeyContent) (rows links text old : List ℕ) (end : ℕ) (found : List ℕ) (linked : AreAllLinked keys rows links)
    (some : 0 < end) (so_far : IsAppended keys rows text old end found) where
  abbrev has : ℕ → Bool
  has row = starts_with nat_eq text (row_codes keys row)

  abbrev last : ℕ
  last = get_or rows (end - 1) 0

  abbrev next : ℕ
  next = get_or links (end - 1) 0

  within : end - 1 < length rows
  within = omega (arith, some, so_far.bound)

  link : IsLink keys rows (end - 1) next
  link = linked.each (end - 1) (omega (arith, some, so_far.bound, linked.all))

  abbrev NoneFrom : ℕ → Type 0
  NoneFrom from = (k : ℕ) → from ≤ k → k < end - 1 → has (get_or rows k 0) ≡ false

  none : NoneFrom next
  none = none_between keys rows text (end - 1) next linked.order within (so_far.up_to (end - 1) (omega (arith, some))) link

  before : (row : ℕ) → has_row found row ≡ has_row old row || (has_row (drop (suc (end - 1)) rows) row && has row)
  before row =
      let is : end ≡ suc (end - 1) = omega (arith, some) in
      so_far.found row ∙ ap (λ n. has_row old row || (has_row (drop n rows) row && has row)) is

  skips : (from : ℕ) → from ≤ next → (found' : List ℕ)
      → ((row : ℕ) → has_row found' row ≡ has_row old row || (has_row (drop from rows) row && has row)) → IsAppended keys rows text old from found'
  skips from le found' is = record {
    bound = omega (arith, le, link.bound, within);
    up_to = λ k lt. so_far.up_to k (omega (arith, lt, le, link.bound, some));
    found = is;
  }

  -- it passes the test
  pub appended_more : has last ≡ true → IsAppended keys rows text old next (found ++ last ∷ [])
  appended_more passes = skips next (omega arith) (found ++ last ∷ []) (λ row.
      list_any-append (λ n. eqb n row) found (last ∷ [])
      ∙ (ap (λ b. b || (eqb last row || false)) (before row)
      ∙ (merge (has_row old row) (has_row (drop (suc (end - 1)) rows) row) (has row) (eqb last row)
      (λ t. ap has (sym (eqb-true _ row t)) ∙ passes)
      ∙ ap (λ b. has_row old row || b) (sym (last_row has rows (end - 1) next row within link.bound none)))))
    where
      merge : (o d h b : Bool) → (b ≡ true → h ≡ true) → (o || (d && h)) || (b || false) ≡ o || ((b || d) && h)
      merge o d h b p = grind arith

  -- it fails it
  pub appended_less : has last ≡ false → (from : ℕ) → from ≤ next → NoneFrom from → IsAppended keys rows text old from found
  appended_less fails from le none' = skips from le found (λ row.
      before row
      ∙ (merge (has_row old row) (has_row (drop (suc (end - 1)) rows) row) (has row) (eqb last row)
      (λ t. ap has (sym (eqb-true _ row t)) ∙ fails)
      ∙ ap (λ b. has_row old row || b) (sym (last_row has rows (end - 1) from row within (omega (arith, le, link.bound)) none'))))
    where
      merge : (o d h b : Bool) → (b ≡ true → h ≡ false) → o || (d && h) ≡ o || ((b || d) && h)
      merge o d h b p = grind arith

  pub appended_none : has last ≡ false → IsAppended keys rows text old next found
  appended_none fails = appended_less fails next (omega arith) none

  -- it fails it, and so do those from another end on
  pub appended_lesser : has last ≡ false → (other least : ℕ) → NoneFrom other → least ≤ next → (least ≡ next) ⊎ (least ≡ other)
      → IsAppended keys rows text old least found
  appended_lesser fails other least none' le is = appended_less fails least le
      (λ k from lt. none_lesser has rows (end - 1) next other least is none none' k from lt)

-- the keys that are not after a text come first
pub up_to_first : (keys : List KeyContent) (rows : List ℕ) (text : List ℕ) → AreInOrder keys rows →
    IsPartitionedBy (λ row. is_up_to text (row_codes keys row)) rows
up_to_first keys rows text order i j d le lt e =
    let weak = ranks_by nat_list_cmp_total (λ (x : List ℕ). x) in
    ap not (weak.chain text (row_codes keys (get_or rows j d)) (row_codes keys (get_or rows i d)) (not-true _ e)
    (sorted_far (λ x y. is_lt (slice_cmp nat_cmp (row_codes keys x) (row_codes keys y))) (ranks_by nat_list_cmp_total (row_codes keys)) rows order
    i j d le lt))

-- keys after a text are none that it begins with
none_after : (keys : List KeyContent) (row : ℕ) (text : List ℕ) → is_up_to text (row_codes keys row) ≡ false →
    starts_with nat_eq text (row_codes keys row) ≡ false
none_after keys row text after = grind (arith, nat_tests, begun_before)

pub none_dropped : (keys : List KeyContent) (rows : List ℕ) (text : List ℕ) (from : ℕ) →
    ((k : ℕ) → from ≤ k → k < length rows → is_up_to text (row_codes keys (get_or rows k 0)) ≡ false) → (row : ℕ) →
    has_row (drop from rows) row && starts_with nat_eq text (row_codes keys row) ≡ false
none_dropped keys rows text from after row =
    none_in (λ r. starts_with nat_eq text (row_codes keys r)) (drop from rows) row
    (λ k lt. grind (arith, nat_tests, length-drop, get_or-drop, nat_eq, none_after))

-- what two lists of codes begin with is no longer than what they have in common
no_longer : (text key codes : List ℕ) (n : ℕ) → get_or text n 0 ≢ get_or key n 0 → starts_with nat_eq text codes ≡ true →
    starts_with nat_eq key codes ≡ true → length codes ≤ n
no_longer text key [] n apart h h' = omega arith
no_longer [] key (c ∷ cs) n apart h h' = absurd cc
no_longer (t ∷ ts) [] (c ∷ cs) n apart h h' = absurd cc
no_longer (t ∷ ts) (k ∷ ks) (c ∷ cs) zero apart h h' = grind (arith, nat_tests, eqb-true)
no_longer (t ∷ ts) (k ∷ ks) (c ∷ cs) (suc n) apart h h' = grind (arith, nat_tests, no_longer ts ks cs n apart)

-- what the codes of a text begin with stands in so many of its bytes
begins_short : (text codes : List ℕ) (n : ℕ) → n ≤ length text → length codes ≤ n → starts_with nat_eq (codes_of false text true) codes ≡ true →
    starts_with nat_eq (codes_of false (take n text) false) codes ≡ true
begins_short (b ∷ bs) (c ∷ cs) (suc n) within le h = grind (arith, nat_tests, begins_short bs cs n)
begins_short text codes n within le h = grind (arith, nat_tests)

-- no row after what a text has in common with a key has a key that the text has
pub none_common : (keys : List KeyContent) (rows : List ℕ) (text common : List ℕ) (index end : ℕ) → AreInOrder keys rows → index < length rows →
    is_up_to (codes_of false text true) (row_codes keys (get_or rows index 0)) ≡ true →
    IsCommon text (row_codes keys (get_or rows index 0)) common →
    ((k : ℕ) → end ≤ k → k < length rows → is_up_to (codes_of false common false) (row_codes keys (get_or rows k 0)) ≡ false) →
    (k : ℕ) → end ≤ k → k < index → starts_with nat_eq (codes_of false text true) (row_codes keys (get_or rows k 0)) ≡ false
none_common keys rows text common index end order within up is after k le lt =
    grind (arith, nat_tests, between_begins, far, not-true, no_longer, begins_short, begun_before)

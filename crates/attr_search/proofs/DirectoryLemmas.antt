-- The lists that apply to a path are found by the keys of its directories.
use Rattle.std.proofs.Common.{◌≡◌, ◌≢◌, map, ℕ, suc, ◌+◌, ◌-◌, ◌<◌, ◌≤◌, inl, inr, false, List, [], ◌∷◌, ◌++◌, length}
use Rattle.std.proofs.Common.{get_or, nat_eq, true, take, drop, min, Option, Some, None, refl, sym, ap, subst, ◌∙◌, arith}
use Rattle.std.specs.Prelude.{Contains, option_map, slice_get, slice_index}
use Rattle.std.specs.Char.{is_ascii_uppercase}
use Rattle.std.specs.List.{list_any, range_with_len}
use Rattle.std.specs.Hash.DefaultHasher as sip
use Rattle.std.specs.declared.hash.DefaultHasher.{DefaultHasher}
use Rattle.std.proofs.Math.Seq.{take-add, take-append_seam}
use Rattle.std.proofs.lemmas.Bool.Decides.{eqb_tells, nat_tests}
use Rattle.std.proofs.lemmas.List.Elements.{Contains-get_or}
use Rattle.std.proofs.lemmas.List.FromFn.{get_or-range_with_len}
use Rattle.std.proofs.lemmas.List.Sorted.{IsNonDecreasingBy-from_default}
use Rattle.std.proofs.lemmas.List.{get_or-map, get_or-take, get_or_default, length-append, length-map, length-take, map-append, take-map, take-take}
use Rattle.std.proofs.lemmas.List.Sums.{fold-append}
use Rattle.std.proofs.lemmas.Map.Views.{Contains-from_any}
use Rattle.std.proofs.lemmas.Option.{slice_get-map, slice_get_within, same_Some}
use Rattle.std.proofs.lemmas.Bool.{cases_lt, or_parts}
use Rattle.std.proofs.lemmas.Slice.Eq.{bytes_eq-Decides}
use Rattle.attr_wildmatch.proofs.ForCallers.{by_test}
use Rattle.attr_glob.specs.Bases.{rest_below}
use Rattle.attr_wildmatch.specs.Bytes.{slash}
use Rattle.attr_glob.specs.Folding.{folded}
use Rattle.attr_glob.specs.Views.{base_bytes}
use Rattle.attr_wildmatch.specs.declared.case.Case.{Case}
use Rattle.attr_wildmatch.specs.declared.case.Case.TheVariants.{Fold}
use Rattle.attr_search.specs.declared.indexed_list.IndexedList.{IndexedList}
use Rattle.attr_search.specs.inner.BaseKeys.{base_keys, directory_of, key_in, longest_base}
use Rattle.attr_search.specs.inner.FoundLists.{AreListsFor}
use Rattle.attr_wildmatch.specs.Slashes.{ends_in_slash}
use Rattle.attr_search.specs.inner.DirectoryKeys.{GathersKeys, HasKeysBelow, HasNumbersOf, IsDirectoryOf, base_directory, keys_of, text_key}

-- what lists have, after one more and after one less
pub mapped_pushed : {X : Type 0} (f : X → ℕ) (keys : List ℕ) (xs : List X) (x : X) → keys ≡ map f xs → keys ++ f x ∷ [] ≡ map f (xs ++ x ∷ [])
mapped_pushed f keys xs x is = ap (λ ks. ks ++ f x ∷ []) is ∙ sym (map-append f xs (x ∷ []))

pub mapped_popped : {X : Type 0} (f : X → ℕ) (keys : List ℕ) (all xs : List X) (x : X) → keys ≡ map f all → all ≡ xs ++ x ∷ [] →
    take (length keys - 1) keys ≡ map f xs
mapped_popped f keys all xs x is whole =
    grind (arith, map-append f xs (x ∷ []), length-append (map f xs) (f x ∷ []), take-append_seam (map f xs) (f x ∷ []))

pub longest_pushed : (lists : List IndexedList) (list : IndexedList) (longest : ℕ) → longest_base lists ≤ longest →
    length (directory_of list) ≤ longest → longest_base (lists ++ list ∷ []) ≤ longest
longest_pushed [] list longest le own = omega (arith, own)
longest_pushed (l ∷ lists) list longest le own = grind (arith, longest_pushed lists list longest)

pub longest_popped : (lists : List IndexedList) (list : IndexedList) (longest : ℕ) → longest_base (lists ++ list ∷ []) ≤ longest →
    longest_base lists ≤ longest
longest_popped [] list longest le = omega arith
longest_popped (l ∷ lists) list longest le = grind (arith, longest_popped lists list longest)

-- no base is longer
pub one_within : (lists : List IndexedList) (number : ℕ) (list : IndexedList) (longest : ℕ) → slice_get lists number ≡ Some list →
    longest_base lists ≤ longest → length (directory_of list) ≤ longest
one_within (l ∷ lists) (suc number) list longest is le = one_within lists number list longest is (omega (arith, le))
one_within lists number list longest is le = grind (arith, slice_get_within, same_Some)

-- a hasher that has a text's first part, and then the part up to an offset
pub hashed_on : (text : List ℕ) (start offset : ℕ) → start ≤ offset →
    sip.write (sip.write sip.initial (take start text)) (take (offset - start) (drop start text)) ≡ sip.write sip.initial (take offset text)
unfolding sip.write
hashed_on text start offset le = grind (arith, take-add start (offset - start) text, fold-append)

pub hashed_none : (hasher : DefaultHasher) → hasher ≡ sip.initial → hasher ≡ sip.write sip.initial []
unfolding sip.write
hashed_none hasher is = is

-- all directories in front of a text are in front of its directory
pub keys_of_text : (text directory keys : List ℕ) → IsDirectoryOf text directory → HasKeysBelow directory (length directory) keys →
    HasKeysBelow text (length text) keys
keys_of_text text directory keys is has = λ offset lt ends.
    elim (cases_lt offset (length directory)) [
      | inl inside ↦ grind (arith, get_or-take, take-take, is.front, has offset inside)
      | inr past ↦ absurd (is.rest offset past lt ends)
    ]

pub small_same : (text : List ℕ) → list_any is_ascii_uppercase text ≡ false → folded Fold text ≡ text
small_same [] none = refl
small_same (b ∷ bs) none = grind (arith, or_parts, small_same bs)

pub same_keys : (base : List ℕ) (key : ℕ) → key ≡ text_key base → list_any is_ascii_uppercase base ≡ false →
    record { spelled = key; folded = key } ≡ keys_of base
same_keys base key is none = grind (arith, small_same)

key_of : (case : Case) (list : IndexedList) → list.base_keys ≡ keys_of (directory_of list)
    → key_in case list ≡ text_key (folded case (directory_of list))
key_of case list is = grind arith

-- where a text has a directory
pub record EndsAt (directory text : List ℕ) : Type 0 where
  pub offset : ℕ
  pub within : offset < length text
  pub ends : slice_index text offset ≡ slash
  pub same : directory ≡ take (offset + 1) text

-- a directory ends in a slash, unless it is the empty one
no_directory : (base : Option (List ℕ)) (case : Case) →
    slice_index (base_directory base) (length (base_directory base) - 1) ≢ slash → folded case (base_directory base) ≡ []
no_directory base case other = grind (arith, by_test)

-- a base that is a directory, in the front of a path below it
text_ends : (base : List ℕ) (case : Case) (path rest : List ℕ) (longest : ℕ) → length base ≤ longest → slice_index base (length base - 1) ≡ slash →
    rest_below (Some base) case path ≡ Some rest → EndsAt (folded case base) (folded case (take (min (length path) longest) path))
text_ends [] case path rest longest le ends is = absurd (omega (arith, ends))
text_ends (b ∷ bs) case path rest longest le ends is = grind (
  arith,
  bytes_eq-Decides (folded case (b ∷ bs)) (folded case (take (length (b ∷ bs)) path)),
  length-map,
  length-take (length (b ∷ bs)) path,
  length-take (min (length path) longest) path,
  take-take (length (b ∷ bs)) (min (length path) longest) path,
  take-map,
  get_or-take (length (b ∷ bs)) (folded case (take (min (length path) longest) path)) (length (b ∷ bs) - 1) 0,
  get_or-map,
)

base_ends : (base : Option (List ℕ)) (case : Case) (path rest : List ℕ) (longest : ℕ) → length (base_directory base) ≤ longest →
    slice_index (base_directory base) (length (base_directory base) - 1) ≡ slash → rest_below base case path ≡ Some rest →
    EndsAt (folded case (base_directory base)) (folded case (take (min (length path) longest) path))
base_ends None case path rest longest le ends is = absurd (omega (arith, ends))
base_ends (Some base) case path rest longest le ends is =
    by_test (ends_in_slash base) (λ t. grind (arith, text_ends)) (λ f. absurd (grind (arith, f, ends)))

-- one of the keys that were looked for
each_key : (keys wanted found : List ℕ) (key : ℕ) → GathersKeys keys wanted (length wanted) found → list_any (nat_eq key) wanted ≡ true →
    HasNumbersOf keys found key
each_key keys wanted found key gathers has =
    let at = Contains-from_any {eq = nat_eq} (λ x y same. grind (arith, nat_tests, same)) key wanted has in
    let is : slice_index wanted at.0 ≡ key = grind (arith, get_or_default, at.1, at.2) in
    subst (HasNumbersOf keys found) is (gathers.each at.0 at.1)

-- a list that applies to the path is found
pub list_found : (lists : List IndexedList) (path wanted found rest : List ℕ) (longest : ℕ) (case : Case) (number : ℕ) (list : IndexedList) →
    longest_base lists ≤ longest →
    (let read = folded case (take (min (length path) longest) path) in HasKeysBelow read (length read) wanted) →
    GathersKeys (base_keys case lists) wanted (length wanted) found →
    slice_get lists number ≡ Some list → list.is_idle ≡ false → rest_below (base_bytes list.list.base) case path ≡ Some rest →
    Contains found number
list_found lists path wanted found rest longest case number list le knows gathers has busy applies =
    let keyed : slice_get (base_keys case lists) number ≡ Some (text_key (folded case (directory_of list))) =
    slice_get-map (key_in case) lists number ∙ ap (option_map (key_in case)) has ∙ ap Some (key_of case list (list.based busy)) in
    elim (eqb_tells (slice_index (directory_of list) (length (directory_of list) - 1)) slash) [
      | inl ends ↦
          let at = base_ends (base_bytes list.list.base) case path rest longest (one_within lists number list longest has le) ends.1 applies in
          each_key (base_keys case lists) wanted found (text_key (folded case (directory_of list))) gathers
          (subst (λ t. list_any (nat_eq (text_key t)) wanted ≡ true) (sym at.same) (knows at.offset at.within at.ends)) number keyed
      | inr other ↦
          gathers.empty number (keyed ∙ ap (λ t. Some (text_key t)) (no_directory (base_bytes list.list.base) case other.1))
    ]

-- if the lists are few, all are found by the numbers below their count
pub few_found : (case : Case) (path : List ℕ) (lists : List IndexedList) (n : ℕ) → n ≡ length lists → n ≤ 4 →
    AreListsFor case path lists (take n (range_with_len 0 4))
few_found case path lists n count le =
    let up : (i : ℕ) → i < n → get_or (take n (range_with_len 0 4)) i 0 ≡ i = λ i lt. grind (arith, get_or-take, get_or-range_with_len) in
    record {
      all = λ number list rest has busy applies.
          let lt = slice_get_within lists number list has in
          subst (Contains (take n (range_with_len 0 4))) (up number (omega (arith, count, lt)))
          (Contains-get_or (take n (range_with_len 0 4)) number 0 (omega (arith, count, lt, le, length-take n (range_with_len 0 4))));
      rising = IsNonDecreasingBy-from_default (λ x. x) (take n (range_with_len 0 4)) 0 (λ i j le lt. grind (arith, length-take));
    }

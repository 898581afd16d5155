-- What is left to fill, and slots over what is stored.
use Rattle.std.proofs.Common.{◌≡◌, ℕ, suc, ◌+◌, ◌-◌, ◌<◌, ◌≤◌, Bool, true, false, cond, nat_eq, List, [], ◌∷◌, ◌++◌, length}
use Rattle.std.proofs.Common.{get_or, set, take, map, Option, Some, None, is_some, option_map, MatchOption, refl, sym, ap, ◌∙◌, arith, rules, Result}
use Rattle.std.proofs.Common.{length-take, drop, replicate, length-append}
use Rattle.std.specs.Bool.{⊤}
use Rattle.std.specs.List.{IsDistinct, list_all, list_any}
use Rattle.std.specs.Result.{OnErr}
use mir.Val.{bool_byte}
use Rattle.std.proofs.lemmas.List.{drop_all, drop_more, get_or-replicate, get_or-set_other, get_or-set_same, get_or-take, length-map}
use Rattle.std.proofs.lemmas.List.{length-replicate, get_or_append_left, get_or-append_right, get_or_past, ext_get_or, take_more, map-set}
use Rattle.std.proofs.Math.ListN
use Rattle.std.proofs.lemmas.Bool.{cases_eq, cases_lt}
use Rattle.std.proofs.lemmas.Bool.Decides.{nat_tests}
use Rattle.std.proofs.lemmas.List.Elements.{All-set, All-weaker, All-get_or, All-head, All-tail, All-same, All-map, All-nil, All-push}
use Rattle.std.proofs.lemmas.List.Folds.{list_all-map, list_any-append, list_any_none}
use mathlib.Core.List.{map-map}
use Rattle.std.specs.Cmp.{nat_eq_equiv}
use Rattle.std.proofs.lemmas.Map.Keys.{IsDistinct-from_apart, IsDistinct-push}
use Rattle.attr_search.specs.shared.SlotContents.{AreListed, count_remaining, remaining_at, wanted_numbers}
use Rattle.attr_search.specs.inner.AnswerRefs.{IsMatchRef, AreMatchRefs, match_by_ref, matches_by_ref}
use Rattle.attr_search.specs.Slots.{Matched, slots_of}
use Rattle.attr_search.specs.inner.PartsContents.{PartsContent, KeepsParts}
use Rattle.attr_search.specs.declared.answer_parts.MatchRef.{MatchRef}
use Rattle.attr_search.proofs.PartLemmas.{grows_at, grows_length}

-- a fact that holds anyway holds on an error
pub on_err : {T E F : Type 0} (r : Result T E) → F → OnErr r F
on_err r f = grind arith

pub is_some_map : {X Y : Type 0} (f : X → Y) (o : Option X) → is_some (option_map f o) ≡ is_some o
is_some_map f o = grind arith

-- nothing is left where each wanted slot is filled
pub left_done : {X Y : Type 0} (flags : List Bool) (slots : List (Option X)) (found : ℕ → Option Y) → length flags ≡ length slots →
    ((a : ℕ) → get_or flags a false ≡ true → is_some (found a) ≡ is_some (get_or slots a None)) →
    nat_eq (count_remaining flags slots) 0 ≡ list_all (λ w. is_some (found w)) (wanted_numbers flags)
left_done (w ∷ flags) (o ∷ slots) found e same = grind (arith, list_all-map, left_done flags slots (λ a. found (suc a)))
left_done flags slots found e same = grind arith

-- a slot is seen as filled where it is filled
pub seen_filled : (store : PartsContent) (slots : List (Option MatchRef)) (a : ℕ) → is_some (slots_of (matches_by_ref store slots) a) ≡ is_some
    (get_or slots a None)
seen_filled store slots a =
    rw (ListN.get_or-map (λ slot. option_map (match_by_ref store) slot) slots a None) (grind (arith, is_some_map))

count_left_push : {X : Type 0} (flags : List Bool) (slots : List (Option X)) (w : Bool) (o : Option X) → length flags ≡ length slots →
    count_remaining (flags ++ w ∷ []) (slots ++ o ∷ []) ≡ count_remaining flags slots + remaining_at w o
count_left_push [] [] w o e = omega arith
count_left_push [] (p ∷ slots) w o e = absurd (omega arith)
count_left_push (v ∷ flags) [] w o e = absurd (omega arith)
count_left_push (v ∷ flags) (p ∷ slots) w o e = grind (arith, count_left_push flags slots w o)

-- one more slot
pub count_left_more : {X : Type 0} (flags : List Bool) (slots : List (Option X)) (i : ℕ) → i < length flags → length flags ≡ length slots →
    count_remaining (take (i + 1) flags) (take (i + 1) slots) ≡ count_remaining (take i flags) (take i slots) + remaining_at (get_or flags i false)
    (get_or slots i None)
count_left_more flags slots i lt same =
    let lt' : i < length slots = omega arith in
    let fronts : length (take i flags) ≡ length (take i slots) = omega (arith, length-take i flags, length-take i slots) in
    ap (λ l. count_remaining l (take (i + 1) slots)) (take_more flags i false lt)
    ∙ ap (count_remaining (take i flags ++ get_or flags i false ∷ [])) (take_more slots i None lt')
    ∙ count_left_push (take i flags) (take i slots) (get_or flags i false) (get_or slots i None) fronts

-- a wanted slot that is filled is left no more
pub count_left_set : {X : Type 0} (flags : List Bool) (slots : List (Option X)) (i : ℕ) (x : X) → length flags ≡ length slots → i < length slots →
    is_some (get_or slots i None) ≡ false →
    count_remaining flags (set slots i (Some x)) + cond (get_or flags i false) 1 0 ≡ count_remaining flags slots
count_left_set (w ∷ flags) (o ∷ slots) (suc i) x e lt free = grind (arith, count_left_set flags slots i x)
count_left_set flags slots i x e lt free = grind arith

-- slots that are all empty
pub none_at : {Y : Type 0} (X : Type 0) (xs : List Y) (a : ℕ) → get_or {A = Option X} (map (λ x. None) xs) a None ≡ None
none_at X (x ∷ xs) (suc a) = none_at X xs a
none_at X xs a = grind arith

pub all_empty : {X Y : Type 0} (slots : List (Option X)) (old : List Y) → length slots ≡ length old →
    ((k : ℕ) → k < length slots → get_or slots k None ≡ None) → slots ≡ map (λ y. None) old
all_empty {X} slots old e empty =
    ext_get_or None slots (map (λ y. None) old) (e ∙ sym (length-map {B = Option X} old (λ y. None)))
    (λ k lt. empty k lt ∙ sym (none_at X old k))

-- and a stored match
pub match_stays : (old new : PartsContent) (m : MatchRef) → KeepsParts old new → IsMatchRef old m → IsMatchRef new m ×
    (match_by_ref new m ≡ match_by_ref old m)
match_stays old new m extends within = grind (arith, grows_length, grows_at)

slot_stays : (old new : PartsContent) (o : Option MatchRef) → KeepsParts old new → MatchOption o ⊤ (IsMatchRef old) →
    MatchOption o ⊤ (IsMatchRef new) × (option_map (match_by_ref new) o ≡ option_map (match_by_ref old) o)
slot_stays old new o extends within = grind (arith, match_stays old new)

-- and what all slots hold
pub slots_stay : (old new : PartsContent) (slots : List (Option MatchRef)) → KeepsParts old new → AreMatchRefs old slots → AreMatchRefs new slots
slots_stay old new slots extends within = grind (arith, slot_stays old new)

pub matches_stay : (old new : PartsContent) (slots : List (Option MatchRef)) → KeepsParts old new → AreMatchRefs old slots →
    matches_by_ref new slots ≡ matches_by_ref old slots
matches_stay old new [] extends within = refl
matches_stay old new (o ∷ slots) extends within =
    let P : Option MatchRef → Type 0 = λ o. MatchOption o ⊤ (IsMatchRef old) in
    let first = (slot_stays old new o extends (All-head P o slots within)).1 in
    grind (arith, matches_stay old new slots extends (All-tail P o slots within))

-- one slot is filled in
pub slots_filled : (old new : PartsContent) (slots : List (Option MatchRef)) (i : ℕ) (m : MatchRef) → KeepsParts old new → AreMatchRefs old slots →
    IsMatchRef new m → AreMatchRefs new (set slots i (Some m))
slots_filled old new slots i m extends within here = search (rules, All-set, slots_stay)

pub matches_filled : (old new : PartsContent) (slots : List (Option MatchRef)) (i : ℕ) (m : MatchRef) (x : Matched) → KeepsParts old new →
    AreMatchRefs old slots → match_by_ref new m ≡ x → matches_by_ref new (set slots i (Some m)) ≡ set (matches_by_ref old slots) i (Some x)
matches_filled old new slots i m x extends within here = grind (arith, map-set, matches_stay)

-- empty slots hold no match
pub empty_within : {X : Type 0} (store : PartsContent) (slots : List (Option MatchRef)) (xs : List X) → slots ≡ map (λ x. None) xs →
    AreMatchRefs store slots
empty_within store slots xs e = search (rules, All-same, All-map)

pub empty_seen : {X : Type 0} (store : PartsContent) (slots : List (Option MatchRef)) (xs : List X) → slots ≡ map (λ x. None) xs →
    matches_by_ref store slots ≡ map (λ x. None) xs
empty_seen store slots xs e = grind (arith, map-map)

-- emptied slots are seen as such, whatever is stored then
pub emptied_seen : (store store' : PartsContent) (slots slots' : List (Option MatchRef)) (held : List (Option Matched)) →
    matches_by_ref store slots ≡ held → slots' ≡ map (λ o. None) slots → matches_by_ref store' slots' ≡ map (λ o. None) held
emptied_seen store store' slots slots' held is e = grind (arith, empty_seen, map-map)

-- one slot less is left where a wanted one is filled
pub fill_counts : {X : Type 0} (flags : List Bool) (slots : List (Option X)) (i : ℕ) (x : X) (w : Bool) (left taken : ℕ) →
    length flags ≡ length slots → i < length slots → is_some (get_or slots i None) ≡ false → left ≡ count_remaining flags slots →
    w ≡ get_or flags i false → taken ≡ bool_byte w → (taken ≤ left) × (left - taken ≡ count_remaining flags (set slots i (Some x)))
fill_counts flags slots i x w left taken same lt free counted read byte = grind (arith, count_left_set flags slots i x same lt free)

pub left_seen : (flags : List Bool) (store : PartsContent) (slots : List (Option MatchRef)) → count_remaining flags slots ≡ count_remaining flags
    (matches_by_ref store slots)
left_seen (w ∷ flags) store (slot ∷ slots) = grind (arith, left_seen flags store slots)
left_seen flags store slots = grind arith

-- every slot but those with these numbers is empty
abbrev pub OthersEmpty : {X : Type 0} → List (Option X) → List ℕ → Type 0
OthersEmpty slots numbers = (a : ℕ) → list_any (nat_eq a) numbers ≡ false → get_or slots a None ≡ None

-- a slot is emptied
pub one_emptied : {X : Type 0} (slots : List (Option X)) (numbers : List ℕ) (i number : ℕ) → i < length numbers → number ≡ get_or numbers i 0 →
    number < length slots → OthersEmpty slots (drop i numbers) → OthersEmpty (set slots number None) (drop (i + 1) numbers)
one_emptied slots numbers i number lt is below others = grind (arith, get_or-set_same, drop_more, get_or-set_other)

-- all are empty, once those with all numbers are
pub all_emptied : {X Y : Type 0} (slots : List (Option X)) (old : List Y) (numbers : List ℕ) (i : ℕ) → length slots ≡ length old →
    length numbers ≤ i → OthersEmpty slots (drop i numbers) → slots ≡ map (λ y. None) old
all_emptied slots old numbers i same le others = grind (arith, all_empty, drop_all)

-- no numbers are distinct
pub distinct_none : (numbers : List ℕ) → numbers ≡ [] → IsDistinct nat_eq numbers
distinct_none numbers none = grind (arith, IsDistinct-from_apart)

-- empty slots need no number
pub empty_listed : {X Y : Type 0} (slots : List (Option X)) (xs : List Y) → slots ≡ map (λ x. None) xs → AreListed slots []
empty_listed {X} slots xs e = grind (arith, All-nil, distinct_none, none_at)

-- a slot that was free is filled, and its number listed
pub listed_more : {X : Type 0} (slots : List (Option X)) (numbers : List ℕ) (number : ℕ) (x : X) → number < length slots →
    is_some (get_or slots number None) ≡ false → AreListed slots numbers → AreListed (set slots number (Some x)) (numbers ++ number ∷ [])
listed_more slots numbers number x within free listed = record {
  filled = All-push Filled numbers number (All-weaker (λ n. is_some (get_or slots n None) ≡ true) Filled kept numbers listed.filled) own;
  distinct = IsDistinct-push nat_eq_equiv numbers number listed.distinct new;
  others = λ a none. other a none;
}
  where
    Filled : ℕ → Type 0
    Filled n = is_some (get_or (set slots number (Some x)) n None) ≡ true

    own : Filled number
    own = ap is_some (get_or-set_same slots number (Some x) None within)

    kept : (n : ℕ) → is_some (get_or slots n None) ≡ true → Filled n
    kept n filled = grind (arith, cases_eq, get_or-set_same, get_or-set_other)

    unlike : (n : ℕ) → is_some (get_or slots n None) ≡ true → nat_eq number n ≡ false
    unlike n filled = grind (arith, nat_tests, cases_eq)

    new : list_any (nat_eq number) numbers ≡ false
    new = list_any_none (nat_eq number) numbers
        (All-weaker (λ n. is_some (get_or slots n None) ≡ true) (λ n. nat_eq number n ≡ false) unlike numbers listed.filled)

    other : (a : ℕ) → list_any (nat_eq a) (numbers ++ number ∷ []) ≡ false → get_or (set slots number (Some x)) a None ≡ None
    other a none = grind (arith, list_any-append, get_or-set_other)

-- a listed number is that of a slot
pub listed_within : {X : Type 0} (slots : List (Option X)) (numbers : List ℕ) (index : ℕ) → AreListed slots numbers → index < length numbers →
    get_or numbers index 0 < length slots
listed_within slots numbers index listed within = grind (arith, All-get_or, get_or_past, cases_lt)

-- slots that were emptied are as many as flags when they are resized
pub empty_resized : {X Y : Type 0} (old : List Y) (emptied resized : List (Option X)) (n count : ℕ) (flags : List Bool) →
    count ≡ length flags → n ≡ length emptied → emptied ≡ map (λ slot. None) old →
    resized ≡ take count emptied ++ replicate (count - n) None → resized ≡ map (λ flag. None) flags
empty_resized {X} old emptied resized n count flags counted same empty is =
    let front = take count emptied in
    let more : List (Option X) = replicate (count - n) None in
    let many : length resized ≡ length flags = omega (
      arith,
      ap length is,
      length-append front more,
      length-take count emptied,
      length-replicate {A = Option X} (count - n) None,
    ) in
    all_empty resized flags many (λ k lt. grind (
      arith,
      get_or_append_left,
      get_or-append_right,
      get_or-take,
      none_at,
      get_or-replicate,
      length-take,
      cases_lt,
    ))

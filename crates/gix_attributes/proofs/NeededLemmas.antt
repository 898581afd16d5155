-- Marks of attributes, and the items of one attribute.
use Rattle.std.proofs.Common.{◌≡◌, ◌≢◌, ◌==◌, ◌||◌, ℕ, suc, ◌+◌, ◌-◌, ◌<◌, ◌≤◌, Bool, true, false, not, cond}
use Rattle.std.proofs.Common.{List, [], ◌∷◌, ◌++◌, length, get_or, set, take, drop, replicate, BTreeSet}
use Rattle.std.proofs.Common.{Option, Some, None, ⊎_elim, inl, inr, sym, ap, ◌∙◌, subst, leb, ltb, arith}
use Rattle.std.specs.Prelude.{All, MatchOption, ⊤, option_map, unwrap_or}
use Rattle.std.specs.BTreeMap.{is_at}
use Rattle.std.specs.List.{Contains, cons_option, list_any}
use Rattle.std.specs.List.Sorted.{IsNonDecreasingBy, IsPartitionPoint, IsPermutation}
use Rattle.std.specs.Ordering.{nat_cmp}
use Rattle.std.proofs.Math.ListN.{length-map}
use Rattle.std.proofs.lemmas.List.FromFn.{fill_by_all, get_or-map-range_with_len, length-map-range_with_len}
use Rattle.std.proofs.lemmas.List.Sorted.{All-permutation, Contains-permutation}
use Rattle.std.proofs.lemmas.List.Folds.{list_any_at}
use Rattle.std.proofs.lemmas.Bool.{cases_eq, cases_lt, false≢true}
use Rattle.std.proofs.lemmas.Bool.Decides.{nat_tests}
use Rattle.std.proofs.lemmas.List.{get_or_default, get_or-drop, get_or-map, get_or_past, get_or-replicate, get_or-set_other, get_or-set_same}
use Rattle.std.proofs.lemmas.List.{get_or-take, length-drop, length_push, length-replicate, length-set, length-take, take_all}
use Rattle.std.proofs.lemmas.List.Elements.{All-append, All-contains, All-contains_itself, All-drop, All-head, All-map, All-more}
use Rattle.std.proofs.lemmas.List.Elements.{All-cons, All-nil, All-push, All-same, All-tail, All-take, All-weaker}
use Rattle.std.proofs.lemmas.List.Elements.{Contains-append_left, Contains-append_right, Contains-push, Contains-push_cases}
use Rattle.std.proofs.lemmas.List.Sums.{sum_by-set}
use Rattle.attr_lists.specs.declared.types.TrackedAssignment.{TrackedAssignment}
use Rattle.attr_search.proofs.ForCallers.{at_other}
use Rattle.gix_attributes.specs.Contents.{Wanted, has_number, is_wanted}
use Rattle.gix_attributes.specs.Selection.{selection_view, wanted_view}
use Rattle.attr_search.specs.shared.Slotted.{BodiesHaveSlots}
use Rattle.gix_attributes.specs.inner.Consistency.{AreEmptyElsewhere}
use Rattle.gix_attributes.specs.declared.search.selected_name.SelectedName.{SelectedName}
use Rattle.gix_attributes.specs.declared.search.needed.BodyItem.{BodyItem}
use Rattle.gix_attributes.specs.inner.Needed.{AreClosedBut, AreNeeded, AreOwnersOf, AreOwnersSet, HasOwners, HaveBodies}
use Rattle.gix_attributes.specs.inner.Needed.{IsClosedOver, IsFlagSet, IsMarked, SetsOnly, body_item, body_items, flags_of, items_with, numbers_of}
use Rattle.gix_attributes.proofs.SearchLaws.{repeated}

-- marks after others
pub marked_then : (flags flags' flags'' : List Bool) (stack stack' stack'' : List ℕ) →
    IsMarked flags stack flags' stack' → IsMarked flags' stack' flags'' stack'' → IsMarked flags stack flags'' stack''
marked_then flags flags' flags'' stack stack' stack'' first second = grind (arith, nat_tests)

abbrev unset : Bool → ℕ
unset flag = cond (not flag) 1 0

set_kept : (flags : List Bool) (a : ℕ) → a < length flags → (b : ℕ) → IsFlagSet flags b → IsFlagSet (set flags a true) b
set_kept flags a lt b is = grind (arith, nat_tests, get_or-set_same, get_or-set_other)

-- one flag is set, and its number is pushed
pub marked_one : (flags : List Bool) (stack : List ℕ) (a : ℕ) → a < length flags → get_or flags a false ≡ false →
    IsMarked flags stack (set flags a true) (stack ++ a ∷ [])
marked_one flags stack a lt free = record {
  count = length-set flags a true;
  set = set_kept flags a lt;
  pushed = λ b is. ⊎_elim (λ (here : b ≡ a). inl (subst (Contains (stack ++ a ∷ [])) (sym here) (Contains-push stack a)))
      (λ (apart : b ≢ a). inr (sym (get_or-set_other flags a b true false apart) ∙ is)) (cases_eq b a);
  stays = λ b on. Contains-append_left stack (a ∷ []) b on;
  stacked = λ all. All-push (IsFlagSet (set flags a true)) stack a
      (All-weaker (IsFlagSet flags) (IsFlagSet (set flags a true)) (set_kept flags a lt) stack all) (get_or-set_same flags a true false lt);
  left = grind (arith, nat_tests, length_push stack a, sum_by-set);
}

-- macros stay marked
pub owners_kept : (flags flags' : List Bool) (items : List BodyItem) → ((a : ℕ) → IsFlagSet flags a → IsFlagSet flags' a) →
    AreOwnersSet flags items → AreOwnersSet flags' items
owners_kept flags flags' items kept set = grind (arith, nat_tests)

-- the macros of an attribute that leaves the stack are marked
pub closed_step : (items part : List BodyItem) (attribute : ℕ) (flags flags' : List Bool) (stack rest stack' : List ℕ) →
    stack ≡ rest ++ attribute ∷ [] → AreClosedBut stack flags items →
    All (λ i. i.attribute ≡ attribute → Contains part i) items → IsMarked flags rest flags' stack' → AreOwnersSet flags' part →
    AreClosedBut stack' flags' items
closed_step items part attribute flags flags' stack rest stack' split closed all marked owners = λ k d lt is.
    let x = get_or items k d in
    ⊎_elim (λ on. inl on)
    (λ (before : IsFlagSet flags x.attribute).
    ⊎_elim
    (λ (on : Contains stack x.attribute). ⊎_elim
    (λ other. inl (marked.stays x.attribute other))
    (λ (here : attribute ≡ x.attribute).
    inr (All-contains (λ i. IsFlagSet flags' i.owner) part x owners (all k d lt (sym here))))
    (Contains-push_cases rest attribute x.attribute (subst (λ l. Contains l x.attribute) split on)))
    (λ owner. inr (marked.set x.owner owner))
    (closed k d lt before))
    (marked.pushed x.attribute is)

-- the last items, as a slice has them
pub rest_is : (items : List BodyItem) (start : ℕ) → take (length items - start) (drop start items) ≡ drop start items
rest_is items start = take_all (length items - start) (drop start items) (omega (arith, length-drop start items))

-- what stands between two points of halving are all items of the attribute
pub all_between : (items rest : List BodyItem) (attribute start len : ℕ) → rest ≡ drop start items →
    IsPartitionPoint (λ i. ltb i.attribute attribute ≡ true) (λ i. ltb i.attribute attribute ≡ false) items start →
    IsPartitionPoint (λ i. leb i.attribute attribute ≡ true) (λ i. leb i.attribute attribute ≡ false) rest len →
    All (λ i. i.attribute ≡ attribute → Contains (take len rest) i) items
all_between items rest attribute start len is first second = λ k d lt same.
    ⊎_elim
    (λ (before : k < start). absurd (below (get_or items k d).attribute same (first.0 k d (omega arith) before)))
    (λ (from : start ≤ k).
    let x = get_or items k d in
    let index = k - start in
    let inside : index < length rest = omega (arith, lt, from, ap length is, length-drop start items) in
    let at : (e : BodyItem) → get_or rest index e ≡ get_or items k e =
    λ e. ap (λ l. get_or l index e) is ∙ get_or-drop start items index e ∙ ap (λ i. get_or items i e) (omega arith) in
    ⊎_elim
    (λ (early : index < len).
    (index, omega (arith, length-take len rest), get_or-take len rest index x early ∙ at x ∙ get_or_default items k x d lt))
    (λ (late : len ≤ index).
    absurd (above x.attribute same (ap (λ i. leb i.attribute attribute) (sym (at d)) ∙ second.1 index d late inside)))
    (cases_lt index len))
    (cases_lt k start)
  where
    below : (a : ℕ) → a ≡ attribute → ltb a attribute ≡ true → ⊥
    below a e t = grind (arith, nat_tests)

    above : (a : ℕ) → a ≡ attribute → leb a attribute ≡ false → ⊥
    above a e t = grind (arith, nat_tests)

-- and no others
pub same_between : (items rest : List BodyItem) (attribute start len : ℕ) → rest ≡ drop start items → start ≤ length items →
    IsPartitionPoint (λ i. ltb i.attribute attribute ≡ true) (λ i. ltb i.attribute attribute ≡ false) items start →
    IsPartitionPoint (λ i. leb i.attribute attribute ≡ true) (λ i. leb i.attribute attribute ≡ false) rest len →
    All (λ i. i.attribute ≡ attribute) (take len rest)
same_between items rest attribute start len is within first second = grind (arith, nat_tests, length-take, length-drop, get_or-drop, get_or-take)

-- a part of a list has its elements
pub part_within : (items rest : List BodyItem) (start len : ℕ) → rest ≡ drop start items → All (Contains items) (take len rest)
part_within items rest start len is =
    All-take (Contains items) len rest (rw is (All-drop (Contains items) start items (All-contains_itself items)))

-- what holds of each element holds of those of a part
pub all_within : (P : BodyItem → Type 0) (items part : List BodyItem) → All P items → All (Contains items) part → All P part
all_within P items part all within = All-weaker (Contains items) P (λ x on. All-contains P items x all on) part within

-- one more macro is marked
pub owners_more : (items : List BodyItem) (index : ℕ) (d : BodyItem) (flags flags' : List Bool) → index < length items →
    ((a : ℕ) → IsFlagSet flags a → IsFlagSet flags' a) → AreOwnersSet flags (take index items) → IsFlagSet flags' (get_or items index d).owner →
    AreOwnersSet flags' (take (index + 1) items)
owners_more items index d flags flags' lt kept set here =
    All-more (λ i. IsFlagSet flags' i.owner) items index d lt (owners_kept flags flags' (take index items) kept set) here

-- the items of a body whose number is among some are among theirs
items_among : (bodies : List (List TrackedAssignment)) (owners : List ℕ) (m : ℕ) → list_any (is_at (nat_cmp m)) owners ≡ true →
    All (Contains (items_with bodies owners)) (body_items bodies m)
items_among bodies [] m found = absurd (false≢true found)
items_among bodies (owner ∷ owners) m found =
    ⊎_elim
    (λ (here : owner ≡ m).
    All-weaker (Contains (body_items bodies m)) (Contains (items_with bodies (owner ∷ owners)))
    (λ x on. grind (arith, nat_tests, Contains-append_left))
    (body_items bodies m) (All-contains_itself (body_items bodies m)))
    (λ (apart : owner ≢ m). grind (arith, nat_tests, All-weaker, Contains-append_right, at_other, items_among bodies owners m))
    (cases_eq owner m)

-- all items are those of the macros' bodies
bodies_had : (bodies : List (List TrackedAssignment)) (macros : BTreeSet ℕ) → AreEmptyElsewhere macros bodies →
    HaveBodies bodies (items_with bodies macros.keys)
bodies_had bodies macros empty = grind (arith, nat_tests, items_among)

owner_below : (bodies : List (List TrackedAssignment)) (owner : ℕ) → All (λ i. i.owner < length bodies) (body_items bodies owner)
owner_below bodies owner =
    ⊎_elim
    (λ (lt : owner < length bodies).
    All-map (λ i. i.owner < length bodies) (body_item owner) (get_or bodies owner []) (λ k d inside. lt))
    (λ (past : length bodies ≤ owner). grind (arith, nat_tests, All-same, get_or_past, All-nil))
    (cases_lt owner (length bodies))

-- what holds of the items of each body holds of those of some
all_items : (P : BodyItem → Type 0) (bodies : List (List TrackedAssignment)) (owners : List ℕ) →
    ((owner : ℕ) → All P (body_items bodies owner)) → All P (items_with bodies owners)
all_items P bodies [] each = All-nil P
all_items P bodies (owner ∷ owners) each =
    All-append P (body_items bodies owner) (items_with bodies owners) (each owner) (all_items P bodies owners each)

-- the items of the macros' bodies, in another order
pub owners_sorted : (bodies : List (List TrackedAssignment)) (macros : BTreeSet ℕ) (items : List BodyItem) → AreEmptyElsewhere macros bodies →
    IsPermutation (items_with bodies macros.keys) items → IsNonDecreasingBy (λ i. i.attribute) items → AreOwnersOf bodies items
owners_sorted bodies macros items empty moved order =
    let all = items_with bodies macros.keys in
    record {
      order = order;
      all = λ m. All-weaker (Contains all) (Contains items) (λ x on. Contains-permutation all items x moved on) (body_items bodies m)
          (bodies_had bodies macros empty m);
      owners = All-permutation (λ i. i.owner < length bodies) all items moved
          (all_items (λ i. i.owner < length bodies) bodies macros.keys (owner_below bodies));
      only = λ has closed. All-permutation (λ i. has i.attribute ≡ true → has i.owner ≡ true) all items moved
          (all_items (λ i. has i.attribute ≡ true → has i.owner ≡ true) bodies macros.keys (λ owner.
          All-map (λ i. has i.attribute ≡ true → has i.owner ≡ true) (body_item owner) (get_or bodies owner []) (closed owner)));
    }

-- a closed set has the macros of an attribute that it has
pub owners_had : (items part : List BodyItem) (attribute : ℕ) (has : ℕ → Bool) → IsClosedOver items has → All (Contains items) part →
    All (λ i. i.attribute ≡ attribute) part → has attribute ≡ true → HasOwners part has
owners_had items part attribute has closed within same is = λ k d lt.
    All-contains (λ i. has i.attribute ≡ true → has i.owner ≡ true) items (get_or part k d) closed (within k d lt) (ap has (same k d lt) ∙ is)

flags_below : (selection : List Wanted) (count a : ℕ) → get_or (flags_of selection count) a false ≡ true → a < count
flags_below selection count a is = grind (arith, nat_tests, length-map-range_with_len, get_or_past)

flag_at : (selection : List Wanted) (count a : ℕ) → a < count → get_or (flags_of selection count) a false ≡ is_wanted selection a
flag_at selection count a lt = get_or-map-range_with_len (is_wanted selection) 0 count a a false lt (omega arith)

-- without a selection all are needed
pub needed_all : (n : ℕ) (bodies : List (List TrackedAssignment)) (selected : List SelectedName) (flags : List Bool) →
    (length selected == 0) ≡ true → flags ≡ flags_of (selection_view selected) n → AreNeeded n bodies (selection_view selected) flags
needed_all n bodies selected flags none is =
    let selection = selection_view selected in
    let none' : (length selection == 0) ≡ true = ap (λ k. k == 0) (length-map selected wanted_view) ∙ none in
    let all : flags ≡ replicate n true = is ∙ sym (fill_by_all (is_wanted selection) (replicate n true) n false (length-replicate n true)
    (λ k lt. get_or-replicate n k true false lt ∙ sym (ap (λ b. b || list_any (has_number k) selection) none'))) in
    grind (arith, nat_tests, length-replicate, set, repeated)

set_any : (flags : List Bool) (m : ℕ) → get_or flags m false ≡ true → get_or flags m true ≡ true
set_any (f ∷ flags) (suc m) is = set_any flags m is
set_any flags m is = grind (arith, nat_tests)

-- without a stack the macro of each item of a marked attribute is marked
owner_set : (flags : List Bool) (items : List BodyItem) (item : BodyItem) → AreClosedBut [] flags items → Contains items item →
    IsFlagSet flags item.attribute → IsFlagSet flags item.owner
owner_set flags items item closed on is = grind (arith, nat_tests)

item_on : (bodies : List (List TrackedAssignment)) (items : List BodyItem) (m k : ℕ) (d : TrackedAssignment) → HaveBodies bodies items →
    k < length (get_or bodies m []) → Contains items (body_item m (get_or (get_or bodies m []) k d))
item_on bodies items m k d had lt = grind (arith, nat_tests, get_or-map, length-map, had m k (body_item m (get_or (get_or bodies m []) k d)))

item_below : (n : ℕ) (bodies : List (List TrackedAssignment)) (m k : ℕ) (d : TrackedAssignment) → BodiesHaveSlots n bodies →
    k < length (get_or bodies m []) → (get_or (get_or bodies m []) k d).id.0 < n
item_below n bodies m k d within lt = grind (arith, nat_tests, get_or_past)

number_set : (selected : List SelectedName) (count k : ℕ) (d : SelectedName) → k < length selected → (number : Option ℕ) →
    (get_or selected k d).number ≡ number → MatchOption number ⊤ (λ n. n < count) →
    MatchOption number ⊤ (IsFlagSet (flags_of (selection_view selected) count))
number_set selected count k d lt number e below =
    grind (arith, nat_tests, get_or-map wanted_view selected k d (wanted_view d) lt, length-map selected wanted_view, list_any_at, flag_at)

all_step : (P : ℕ → Type 0) (number : Option ℕ) (rest : List ℕ) → MatchOption number ⊤ P → All P rest → All P (cons_option number rest)
all_step P number rest here all = grind (arith, nat_tests, All-cons)

all_numbers : (P : ℕ → Type 0) (selected : List SelectedName) → All (λ s. MatchOption s.number ⊤ P) selected → All P (numbers_of selected)
all_numbers P [] all = All-nil P
all_numbers P (name ∷ selected) all =
    let Each : SelectedName → Type 0 = λ s. MatchOption s.number ⊤ P in
    all_step P name.number (numbers_of selected) (All-head Each name selected all) (all_numbers P selected (All-tail Each name selected all))

-- the flags of a selection's numbers are set
pub numbers_set : (selected : List SelectedName) (count : ℕ) → All (λ s. MatchOption s.number ⊤ (λ n. n < count)) selected →
    All (IsFlagSet (flags_of (selection_view selected) count)) (numbers_of selected)
numbers_set selected count below =
    grind (arith, nat_tests, all_numbers (IsFlagSet (flags_of (selection_view selected) count)) selected, number_set selected count)

on_step : (number : Option ℕ) (rest : List ℕ) (a : ℕ) (others : Bool) → (others ≡ true → Contains rest a) →
    unwrap_or (option_map (λ n. n == a) number) false || others ≡ true → Contains (cons_option number rest) a
on_step None rest a others on is = on is
on_step (Some n) rest a others on is = grind (arith, nat_tests, Contains-append_right (n ∷ []) rest a, cases_eq n a, Contains-push)

numbers_have : (selected : List SelectedName) (a : ℕ) → list_any (has_number a) (selection_view selected) ≡ true → Contains (numbers_of selected) a
numbers_have [] a is = absurd (false≢true is)
numbers_have (name ∷ selected) a is =
    on_step name.number (numbers_of selected) a (list_any (has_number a) (selection_view selected)) (numbers_have selected a) is

-- and no others if there is a selection, so that all is closed but for these
pub closed_selected : (selected : List SelectedName) (count : ℕ) (items : List BodyItem) → (length selected == 0) ≡ false →
    AreClosedBut (numbers_of selected) (flags_of (selection_view selected) count) items
closed_selected selected count items some = λ k d lt is.
    let a = (get_or items k d).attribute in
    inl (numbers_have selected a (grind (arith, nat_tests, length-map, flag_at, flags_below)))

-- the marks of selected attributes, and of what depends on them
pub needed_marked : (n : ℕ) (bodies : List (List TrackedAssignment)) (selected : List SelectedName) (items : List BodyItem)
    (flags : List Bool) → BodiesHaveSlots n bodies → (length selected == 0) ≡ false → AreOwnersOf bodies items →
    ((a : ℕ) → IsFlagSet (flags_of (selection_view selected) n) a → IsFlagSet flags a) → length flags ≡ n → AreClosedBut [] flags items →
    SetsOnly (flags_of (selection_view selected) n) flags (IsClosedOver items) → AreNeeded n bodies (selection_view selected) flags
needed_marked n bodies selected items flags within some owners kept count closed only = record {
  count = count;
  selected = kept;
  closed = λ m k d lt is.
      let item = get_or (get_or bodies m []) k d in
      let below : item.id.0 < length flags = omega (arith, item_below n bodies m k d within lt, count) in
      set_any flags m (owner_set flags items (body_item m item) closed (item_on bodies items m k d owners.all lt)
      (get_or_default flags item.id.0 false true below ∙ is));
  all = λ none. absurd (false≢true (sym some ∙ ap (λ k. k == 0) (sym (length-map selected wanted_view) ∙ none)));
  least = λ has held closed. only has held (owners.only has closed);
}

-- What the steps of an addition and of a removal do to the parts of a name table.
use Rattle.std.proofs.Common.{◌≡◌, ◌≢◌, ℕ, zero, suc, ◌+◌, ◌<◌, ◌≤◌, true, false, not, eqb, List, [], ◌∷◌, ◌++◌, length, get_or, map}
use Rattle.std.proofs.Common.{filter, slice_get, All, Option, Some, None, unwrap_or, option_map, refl, sym, ap, subst, ◌∙◌, ⊎_elim, arith}
use Rattle.std.proofs.Common.{ne_eqb, eq-eqb, true≢false}
use Rattle.std.specs.BTreeSet.{BTreeSet, contains}
use Rattle.std.specs.Ordering.{nat_cmp}
use Rattle.std.specs.Prelude.{◌==◌}
use Rattle.std.specs.List.{remove}
use Rattle.std.proofs.lemmas.Bool.{cases_Bool, cases_eq, cases_lt, lt-ltb}
use Rattle.std.proofs.lemmas.Bool.Decides.{nat_tests}
use Rattle.std.proofs.lemmas.List.{length-map, map-append, take-map, drop-map, get_or_past}
use Rattle.std.proofs.lemmas.List.Elements.{All-nil, All-head, All-tail, All-append, All-map, All-weaker}
use Rattle.std.proofs.lemmas.List.Folds.{list_any_at}
use Rattle.std.proofs.lemmas.List.Kept.{AllPairs-filter}
use Rattle.std.proofs.lemmas.List.Quantifiers.{all_pairs_push}
use Rattle.std.proofs.lemmas.Option.{get_or_from_slice_get, slice_get-map, slice_get_read, slice_get_within}
use Rattle.attr_lists.specs.declared.name_table.entry.NameEntry.{NameEntry}
use Rattle.attr_lists.specs.declared.name_table.registered.ListMacros.{ListMacros}
use Rattle.attr_lists.specs.Collections.{MacroDefinition, NumberedBody, RegisteredList, Collection}
use Rattle.attr_lists.specs.Definitions.{bodies_of_list, bodies_of_number, definition_of, definitions_by, definitions_for}
use Rattle.attr_lists.specs.Definitions.{definitions_of, is_registered, of_other_lists, macros_defined, with_list, without_list, HoldsList}
use Rattle.attr_lists.specs.Definitions.{IsSoundCollection}
use Rattle.attr_lists.specs.ListViews.{Entry}
use Rattle.attr_lists.specs.Numbers.{names_in, number_of, numbered_lines, with_names}
use Rattle.attr_lists.specs.inner.EntrySteps.{KeepsOtherDefinitions, RemovesListed}
use Rattle.attr_lists.specs.inner.EntryViews.{definitions_view, all_definitions, definitions_at, AreAllInOrder, AreEntries, AreInListOrder, AreValid}
use Rattle.attr_lists.specs.inner.NameTableView.{Describes}
use Rattle.attr_lists.specs.inner.Registered.{bodies_of_name, registered_views, registered_view, AgreesOn, AreAscending, IsAbove, IsIndexOf}
use Rattle.attr_lists.specs.inner.Registered.{ListsBodies}
use Rattle.attr_lists.specs.shared.MacroNumbers.{KeepsNumbers, RemovesUndefined}
use Rattle.attr_lists.proofs.ListLemmas.{get_or-map}
use Rattle.attr_lists.proofs.NameTableLaws.{added_at, added_sound, definitions_in, lack_registered}
use Rattle.attr_lists.proofs.NameTableLaws.{none_of_list, of_other_lists-free, own_bodies, removed_at, removed_sound, Lack}
use Rattle.attr_lists.proofs.NamedDefinitions.{bodies_by_number}
use Rattle.attr_lists.proofs.RunLemmas.{keep_all, run_removed}

-- ---- ids

-- no list has an id that is above all
pub above_lacks : (list_id : ℕ) (lists : List RegisteredList) → IsAbove list_id lists → Lack list_id lists
above_lacks list_id lists above = λ k d lt e. omega (arith, above k d lt, e)

pub above_fresh : (list_id : ℕ) (known : Collection) → IsAbove list_id known.lists → is_registered known list_id ≡ false
above_fresh list_id known above = lack_registered list_id known.lists (above_lacks list_id known.lists above)

-- ---- the order of definitions

from_first : (t : ℕ) (xs ys : List MacroDefinition) → All (λ d. d.list_id ≡ t) xs → All (λ d. t ≤ d.list_id) ys → AreInListOrder ys
    → AreInListOrder (xs ++ ys)
from_first t [] ys own later order = order
from_first t (x ∷ xs) ys own later order =
    let rest = from_first t xs ys (All-tail (λ d. d.list_id ≡ t) x xs own) later order in
    let here = All-head (λ d. d.list_id ≡ t) x xs own in
    let above : All (λ d. t ≤ d.list_id) (xs ++ ys) = All-append (λ d. t ≤ d.list_id) xs ys
    (All-weaker (λ d. d.list_id ≡ t) (λ d. t ≤ d.list_id) (λ d e. omega (arith, e)) xs (All-tail (λ d. d.list_id ≡ t) x xs own)) later in
    in_cons x (xs ++ ys) (All-weaker (λ d. t ≤ d.list_id) (λ d. x.list_id ≤ d.list_id) (λ d le. omega (arith, le, here)) (xs ++ ys) above) rest
  where
    in_cons : (x : MacroDefinition) (xs : List MacroDefinition) → All (λ d. x.list_id ≤ d.list_id) xs → AreInListOrder xs → AreInListOrder (x ∷ xs)
    in_cons x xs above order h e d le lt = grind arith

later_ids : (t number : ℕ) (lists : List RegisteredList) → All (λ l. t < l.list_id) lists → All (λ d. t ≤ d.list_id) (definitions_in number lists)
later_ids t number [] h = All-nil (λ d. t ≤ d.list_id)
later_ids t number (l ∷ lists) h =
    All-append (λ d. t ≤ d.list_id) (definitions_by number l) (definitions_in number lists)
    (All-map (λ d. t ≤ d.list_id) (definition_of l.list_id) (bodies_of_number number l.macros)
    (λ k d lt. let below = All-head (λ l. t < l.list_id) l lists h in omega (arith, below)))
    (later_ids t number lists (All-tail (λ l. t < l.list_id) l lists h))

-- the definitions of a number are in the order of list ids
pub definitions_in_order : (number : ℕ) (lists : List RegisteredList) → AreAscending lists → AreInListOrder (definitions_in number lists)
definitions_in_order number [] ascend = λ i j d le lt. absurd (omega arith)
definitions_in_order number (l ∷ lists) ascend =
    from_first l.list_id (definitions_by number l) (definitions_in number lists)
    (All-map (λ d. d.list_id ≡ l.list_id) (definition_of l.list_id) (bodies_of_number number l.macros) (λ k d lt. refl))
    (later_ids l.list_id number lists (λ k d lt. ascend zero (suc k) d (omega arith) (omega arith)))
    (definitions_in_order number lists (λ i j d lt below. ascend (suc i) (suc j) d (omega arith) (omega arith)))

pub all_in_order : {list : List NameEntry} {numbers : BTreeSet ℕ} {known : Collection} → Describes list numbers known → AreAllInOrder list
all_in_order whole = grind (arith, definitions_in_order)

-- a number that isn't among more numbers isn't among fewer
absent : (old new : BTreeSet ℕ) (n : ℕ) → KeepsNumbers old new → contains nat_cmp new n ≡ false → contains nat_cmp old n ≡ false
absent old new n kept none = grind (arith, true≢false, cases_Bool)

-- other entries with the same definitions
pub still_whole : (list now : List NameEntry) (numbers after : BTreeSet ℕ) (known : Collection) → Describes list numbers known
    → length now ≡ length list → AreEntries now → ((n : ℕ) → definitions_at now n ≡ definitions_at list n) → KeepsNumbers numbers after
    → Describes now after known
still_whole list now numbers after known whole count are same kept = record {
  sound = whole.sound;
  counted = count ∙ whole.counted;
  entries = are;
  defined = λ n. same n ∙ whole.defined n;
  ascending = whole.ascending;
  macros = λ n none. whole.macros n (absent numbers after n kept none);
}

-- ---- a list is removed

-- a list that is not there
pub none_left : (known : Collection) (list_id : ℕ) → Lack list_id known.lists → known ≡ without_list list_id known
none_left known list_id lack =
    ap (λ lists. record { names = known.names; lists = lists })
    (sym (keep_all (λ l. not (eqb l.list_id list_id)) known.lists (λ k d lt. ap not (ne_eqb _ list_id (lack k d lt)))))

removed_list : (lists : List RegisteredList) (at : ℕ) (own : RegisteredList) → AreAscending lists → slice_get lists at ≡ Some own
    → remove lists at ≡ filter (λ l. not (l.list_id == own.list_id)) lists
removed_list lists at own ascend here =
    let lt = slice_get_within lists at own here in
    let is = λ (d : RegisteredList). ap (λ (l : RegisteredList). l.list_id) (get_or_from_slice_get lists at own d here) in
    let low : (k : ℕ) (d : RegisteredList) → k < at → (get_or lists k d).list_id < own.list_id =
    λ k d below. omega (arith, is d, ascend k at d below lt) in
    let high : (k : ℕ) (d : RegisteredList) → at < k → k < length lists → own.list_id < (get_or lists k d).list_id =
    λ k d above within. omega (arith, is d, ascend at k d above within) in
    run_removed (λ l. l.list_id) lists own.list_id at (suc at) (omega arith) (omega (arith, lt))
    ((λ k d a b. lt-ltb _ _ (low k d b)), λ k d a b. grind (arith, nat_tests, is d, high k d, cases_eq k at))
    ((λ k d a b. grind (arith, nat_tests, is d, low k d, cases_eq k at)), λ k d a b. grind (arith, nat_tests, high k d))

-- the list at an index
pub view_at : (lists : List ListMacros) (at : ℕ) (own : RegisteredList) (list : ListMacros) → slice_get (registered_views lists) at ≡ Some own
    → list ≡ get_or lists at list → own ≡ registered_view list
view_at lists at own list here is = grind (arith, slice_get_within, slice_get-map, slice_get_read, length-map)

-- the lists without the one at an index
pub left : (names : List (List ℕ)) (lists : List ListMacros) (at list_id : ℕ) → AreAscending (registered_views lists)
    → IsIndexOf list_id (registered_views lists) at → record { names = names; lists = registered_views (remove lists at) } ≡
    without_list list_id (record { names = names; lists = registered_views lists })
left names lists at list_id ascend found =
    let views : registered_views (remove lists at) ≡ remove (registered_views lists) at = grind (arith, map-append, take-map, drop-map) in
    ap (λ ls. record { names = names; lists = ls })
    (views ∙ removed_list (registered_views lists) at found.0 ascend found.1
    ∙ ap (λ id. filter (λ (l : RegisteredList). not (l.list_id == id)) (registered_views lists)) found.2)

-- its definitions are removed from the entries
pub left_whole : (list now : List NameEntry) (numbers after : BTreeSet ℕ) (known : Collection) (at list_id : ℕ) → Describes list numbers known
    → (found : IsIndexOf list_id known.lists at) → length now ≡ length list → RemovesListed list_id found.0.macros list now
    → RemovesUndefined now numbers after → Describes now after (without_list list_id known)
left_whole list now numbers after known at list_id whole found count removed undefined =
    let gone = removed_at known list_id in
    let none : (n : ℕ) → bodies_of_number n found.0.macros ≡ [] → bodies_of_list list_id (definitions_of known n) ≡ [] =
    λ n none. subst (λ id. bodies_of_list id (definitions_of known n) ≡ []) found.2
    (own_bodies n known.lists at found.0 whole.sound.ids found.1 ∙ none) in
    let defined : (n : ℕ) → definitions_at now n ≡ definitions_of (without_list list_id known) n =
    λ n. ⊎_elim
    (λ own_gone. own_gone ∙ ap (of_other_lists list_id) (whole.defined n) ∙ sym (gone n))
    (λ kept. kept.1 ∙ whole.defined n ∙ sym (gone n ∙ of_other_lists-free list_id (definitions_of known n) (none n kept.0)))
    (removed.definitions n) in
    record {
      sound = removed_sound known list_id whole.sound;
      counted = count ∙ whole.counted;
      entries = removed.entries whole.entries;
      defined = defined;
      ascending = AllPairs-filter (λ x y. x.list_id < y.list_id) (λ l. not (l.list_id == list_id)) known.lists whole.ascending;
      macros = λ n none. grind (arith, gone n, defined n, whole.macros n, undefined n, cases_Bool);
    }

-- ---- a list is added

module _ (list now : List NameEntry) (numbers after : BTreeSet ℕ) (known : Collection) (list_id : ℕ) (entries : List Entry)
    (whole : Describes list numbers known) (above : IsAbove list_id known.lists) where
  abbrev names : List (List ℕ)
  names = with_names known.names (names_in entries)

  abbrev macros : List NumberedBody
  macros = macros_defined (numbered_lines names entries)

  pub added_whole : AreValid names → length now ≡ length names → AreEntries now
      → ((n : ℕ) → n < length now
      → definitions_at now n ≡ definitions_at list n ++ map (definition_of list_id) (bodies_of_number n macros))
      → KeepsNumbers numbers after → ListsBodies after macros → Describes now after (with_list list_id entries known)
  added_whole valid count are defined kept listed =
      let sound = added_sound known list_id entries whole.sound (above_fresh list_id known above) valid in
      let at = added_at known list_id entries in
      record {
        sound = sound;
        counted = count;
        entries = are;
        defined = λ n. ⊎_elim
            (λ lt. defined n lt ∙ ap (λ ds. ds ++ map (definition_of list_id) (bodies_of_number n macros)) (whole.defined n) ∙ sym (at n))
            (λ past. get_or_past (all_definitions now) n [] (omega (arith, past, length-map now definitions_view))
            ∙ sym (sound.numbers n (omega (arith, past, count))))
            (cases_lt n (length now));
        ascending = all_pairs_push (λ x y. x.list_id < y.list_id) known.lists (record { list_id = list_id; macros = macros }) whole.ascending above;
        macros = λ n none. at n
            ∙ ap (λ ds. ds ++ map (definition_of list_id) (bodies_of_number n macros)) (whole.macros n (absent numbers after n kept none))
            ∙ ap (map (definition_of list_id)) (listed n none);
      }

-- memory ran out when the entries were `mid`, and the list's definitions are taken back
pub taken_back : (list mid now : List NameEntry) (numbers after : BTreeSet ℕ) (known : Collection) (list_id : ℕ) → Describes list numbers known
    → IsAbove list_id known.lists → length mid ≡ length list → KeepsOtherDefinitions list_id list mid
    → all_definitions now ≡ map (of_other_lists list_id) (all_definitions mid) → AreEntries now → KeepsNumbers numbers after
    → Describes now after known
taken_back list mid now numbers after known list_id whole above counted others definitions are kept =
    still_whole list now numbers after known whole
    (omega (
      arith,
      length-map now definitions_view,
      ap length definitions,
      length-map (all_definitions mid) (of_other_lists list_id),
      length-map mid definitions_view,
      counted,
    )) are
    (λ n. ap (λ l. get_or l n []) definitions ∙ get_or-map (of_other_lists list_id) (all_definitions mid) n []
    ∙ others n ∙ ap (of_other_lists list_id) (whole.defined n)
    ∙ of_other_lists-free list_id (definitions_of known n) (none_of_list list_id n known.lists (above_lacks list_id known.lists above))
    ∙ sym (whole.defined n)) kept

-- ---- a list is held

-- what a registered list has of a name are the bodies of its macros
module _ (table : Collection) (at : ℕ) (own : RegisteredList) (sound : IsSoundCollection table) (here : slice_get table.lists at ≡ Some own) where
  pub held_for : (name : List ℕ)
      → bodies_of_list own.list_id (definitions_for table name) ≡ bodies_of_name table.names own.macros name
  held_for name = by_number (number_of table.names name) ∙ sym (bodies_by_number table.names name sound.distinct _ refl own.macros)
    where
      by_number : (o : Option ℕ) → bodies_of_list own.list_id (unwrap_or (option_map (definitions_of table) o) [])
          ≡ unwrap_or (option_map (λ number. bodies_of_number number own.macros) o) []
      by_number None = refl
      by_number (Some n) = own_bodies n table.lists at own sound.ids here

  pub held_registered : is_registered table own.list_id ≡ true
  held_registered =
      list_any_at (λ (l : RegisteredList). l.list_id == own.list_id) table.lists at own (slice_get_within table.lists at own here)
      (eq-eqb (get_or table.lists at own).list_id own.list_id
      (ap (λ (l : RegisteredList). l.list_id) (get_or_from_slice_get table.lists at own own here)))

  pub held_lines : (entries : List Entry) → ((name : List ℕ) → AgreesOn table.names own.macros entries name)
      → HoldsList table own.list_id entries
  held_lines entries agrees = record { registered = held_registered; bodies = λ name. held_for name ∙ agrees name }

  pub lines_held : (entries : List Entry) → HoldsList table own.list_id entries
      → (name : List ℕ) → AgreesOn table.names own.macros entries name
  lines_held entries h name = sym (held_for name) ∙ h.bodies name

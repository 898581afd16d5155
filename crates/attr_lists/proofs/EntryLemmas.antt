-- What is entries of names, by number.
use Rattle.std.proofs.Common.{◌≡◌, ◌≢◌, ℕ, suc, ◌+◌, ◌<◌, ◌≤◌, not, eqb, List, [], ◌∷◌, ◌++◌, length, get_or, set}
use Rattle.std.proofs.Common.{take, drop, map, filter, All, refl, sym, ap, subst, ◌∙◌, ⊎_elim, inl, inr, arith, ne_eqb, eq-eqb}
use Rattle.std.specs.List.{AllZip}
use Rattle.std.specs.List.Sorted.{IsNonDecreasingBy}
use Rattle.std.proofs.lemmas.Bool.{cases_eq, cond-true, cond-false}
use Rattle.std.proofs.lemmas.List.{append-nil, append_assoc, map-append, map-set, length-map, length-append, length-set, get_or_push}
use Rattle.std.proofs.lemmas.List.{get_or_append_left, get_or_default, get_or_past, get_or-set_same, get_or-set_other, at_drop_more, take_more}
use Rattle.std.proofs.lemmas.List.Elements.{All-map, All-filter}
use Rattle.std.proofs.lemmas.List.Kept.{IsNonDecreasingBy-filter}
use Rattle.attr_lists.specs.contracts.name_table.entry.DefinitionClone.TheImpl as clone
use Rattle.attr_lists.specs.declared.name_table.entry.Definition.{Definition}
use Rattle.attr_lists.specs.declared.name_table.entry.NameEntry.{NameEntry}
use Rattle.attr_lists.specs.declared.types.Metadata.{Metadata}
use Rattle.attr_lists.specs.declared.types.TrackedAssignment.{TrackedAssignment}
use Rattle.attr_lists.specs.Collections.{MacroDefinition, NumberedBody}
use Rattle.attr_lists.specs.Definitions.{bodies_of_number, definition_of, is_of_list, of_other_lists}
use Rattle.attr_lists.specs.inner.EntrySteps.{RemovesFrom, RemovesListed}
use Rattle.attr_lists.specs.inner.EntryViews.{definition_view, definitions_view, all_definitions, definitions_at, AreAllInOrder, AreInListOrder}
use Rattle.attr_lists.specs.inner.EntryViews.{IsEntry, AreEntries}
use Rattle.attr_lists.specs.inner.Registered.{SharedMacro, numbered_body}
use Rattle.attr_lists.proofs.DefinitionLemmas.{of_other_lists-again, of_other_lists-more}
use Rattle.attr_lists.proofs.ListLemmas.{filter-map, get_or-map, map_copied}
use Rattle.attr_lists.proofs.NameTableLaws.{all_of_map, bodies_of_number-append}

-- the definitions that are left
pub removed_from : (list_id : ℕ) (old new : NameEntry) → new.undefined ≡ old.undefined
    → new.definitions.items ≡ filter (λ d. not (eqb d.list_id list_id)) old.definitions.items → RemovesFrom list_id old new
removed_from list_id old new same e = record {
  definitions = ap (map definition_view) e ∙ filter-map (λ d. not (is_of_list list_id d)) definition_view old.definitions.items;
  entry = λ number is. record {
    id = ap (λ (m : Metadata). m.id.0) same ∙ is.id;
    empty = ap (λ (m : Metadata). m.macro_attributes.items) same ∙ is.empty;
    ids = subst (All (λ (d : Definition). d.metadata.value.id.0 ≡ number)) (sym e)
        (All-filter (λ d. not (eqb d.list_id list_id)) (λ (d : Definition). d.metadata.value.id.0 ≡ number) old.definitions.items is.ids);
  };
}

push_nothing : {X : Type 0} (xs : List (List X)) (n : ℕ) → get_or (xs ++ [] ∷ []) n [] ≡ get_or xs n []
push_nothing (x ∷ xs) (suc n) = push_nothing xs n
push_nothing xs n = grind arith

-- one more name, without a definition
pub definitions_at-push : (old new : List NameEntry) (x : NameEntry) (n : ℕ) → new ≡ old ++ x ∷ [] → definitions_view x ≡ [] → definitions_at new n ≡
    definitions_at old n
definitions_at-push old new x n e none = grind (arith, map-append, push_nothing)

pub AreEntries-push : (old new : List NameEntry) (x : NameEntry) (number : ℕ) → new ≡ old ++ x ∷ [] → length old ≡ number → IsEntry number x →
    AreEntries old → AreEntries new
AreEntries-push old new x number e at is all = grind (arith, get_or_push, length-append, get_or_append_left, cases_eq)

-- the definitions of the name that changes, and of the others
pub definitions_at-same : (entries : List NameEntry) (i : ℕ) (x : NameEntry) → i < length entries → definitions_at (set entries i x) i ≡
    definitions_view x
definitions_at-same entries i x lt = grind (arith, map-set, get_or-set_same, length-map)

pub definitions_at-other : (entries : List NameEntry) (i n : ℕ) (x : NameEntry) → n ≢ i → definitions_at (set entries i x) n ≡ definitions_at entries
    n
definitions_at-other entries i n x other = grind (arith, map-set, get_or-set_other)

pub definitions_at-within : (entries : List NameEntry) (i : ℕ) (d : NameEntry) → i < length entries → definitions_at entries i ≡ definitions_view
    (get_or entries i d)
definitions_at-within entries i d lt =
    grind (arith, get_or_default (all_definitions entries) i, length-map entries definitions_view, get_or-map definitions_view entries i d)

-- the value that a write leaves is what is entries of the name at that index
pub AreEntries-set-element : (entries : List NameEntry) (i : ℕ) (d x : NameEntry) {n : ℕ} → length entries ≡ n → i < n →
    (IsEntry i (get_or entries i d) → IsEntry i x) → AreEntries entries → AreEntries (set entries i x)
AreEntries-set-element entries i d x {n} len lt keeps all = grind (arith, length-set, get_or-set_same, get_or-set_other, cases_eq)

-- the definitions of a name after those of one more macro are added
pub define_list_step : (list_id number : ℕ) (start entries now : List NameEntry) (list : List SharedMacro) (i : ℕ) (known : SharedMacro)
    → i < length list → known ≡ get_or list i known
    → definitions_at entries number ++ map (definition_of list_id) (bodies_of_number number (map numbered_body (drop i list)))
    ≡ definitions_at start number ++ map (definition_of list_id) (bodies_of_number number (map numbered_body list))
    → definitions_at now number ≡ definitions_at entries number ++ map (definition_of list_id) (bodies_of_number number (numbered_body known ∷ []))
    → definitions_at now number ++ map (definition_of list_id) (bodies_of_number number (map numbered_body (drop (i + 1) list)))
    ≡ definitions_at start number ++ map (definition_of list_id) (bodies_of_number number (map numbered_body list))
define_list_step list_id number start entries now list i known lt at before here =
    let bodies = λ (l : List SharedMacro). map (definition_of list_id) (bodies_of_number number (map numbered_body l)) in
    let first = get_or list i known in
    let rest = drop (i + 1) list in
    ap (λ l. l ++ bodies rest) (here ∙ ap (λ k. definitions_at entries number ++ bodies (k ∷ [])) at)
    ∙ append_assoc (definitions_at entries number) (bodies (first ∷ [])) (bodies rest)
    ∙ ap (λ l. definitions_at entries number ++ l)
    (sym (map-append (definition_of list_id) (bodies_of_number number (numbered_body first ∷ [])) (bodies_of_number number (map numbered_body rest)))
    ∙ ap (map (definition_of list_id)) (sym (bodies_of_number-append number (numbered_body first ∷ []) (map numbered_body rest)))
    ∙ sym (at_drop_more bodies list i known lt))
    ∙ before

-- a list's definitions of the name with this number were removed; those of other names stay
pub record RemovesAt (list_id number : ℕ) (old new : List NameEntry) : Type 0 where
  pub here : definitions_at new number ≡ of_other_lists list_id (definitions_at old number)
  pub others : (other : ℕ) → other ≢ number → definitions_at new other ≡ definitions_at old other
  pub entries : AreEntries old → AreEntries new

pub removed_one : (list_id i : ℕ) (entries : List NameEntry) (d x : NameEntry) → i < length entries → RemovesFrom list_id (get_or entries i d) x
    → RemovesAt list_id i entries (set entries i x)
removed_one list_id i entries d x lt removed = record {
  here = definitions_at-same entries i x lt ∙ removed.definitions ∙ ap (of_other_lists list_id) (sym (definitions_at-within entries i d lt));
  others = λ other apart. definitions_at-other entries i other x apart;
  entries = AreEntries-set-element entries i d x refl lt (removed.entry i);
}

pub removed_nothing : (list_id i : ℕ) (entries : List NameEntry) → length entries ≤ i → RemovesAt list_id i entries entries
removed_nothing list_id i entries past =
    let none = get_or_past (all_definitions entries) i [] (omega (arith, past, length-map entries definitions_view)) in
    record { here = none ∙ ap (of_other_lists list_id) (sym none); others = λ other apart. refl; entries = λ all. all }

-- the list ids of a name don't fall
pub in_order : (ds : List Definition) → AreInListOrder (map definition_view ds) → IsNonDecreasingBy (λ d. d.list_id) ds
in_order ds h = grind (arith, length-map ds definition_view, get_or-map definition_view ds)

pub order_at : (entries : List NameEntry) (i : ℕ) (d : NameEntry) → i < length entries → AreAllInOrder entries
    → AreInListOrder (definitions_view (get_or entries i d))
order_at entries i d lt all = subst AreInListOrder (definitions_at-within entries i d lt) (all i)

pub others_in_order : (list_id : ℕ) (ds : List MacroDefinition) → AreInListOrder ds → AreInListOrder (of_other_lists list_id ds)
others_in_order list_id ds h = IsNonDecreasingBy-filter (λ d. d.list_id) (λ d. not (is_of_list list_id d)) ds h

bodies_of_number-other : (number : ℕ) (b : NumberedBody) → b.number ≢ number → bodies_of_number number (b ∷ []) ≡ []
bodies_of_number-other number b other = grind (arith, cond-false, ne_eqb)

-- the definitions of a list are removed from one more name
module _ (list_id at : ℕ) (old new : List NameEntry) (removed : RemovesAt list_id at old new) where
  pub order_kept : AreAllInOrder old → AreAllInOrder new
  order_kept all n =
      ⊎_elim
      (λ same. subst AreInListOrder (sym (ap (definitions_at new) same ∙ removed.here)) (others_in_order list_id (definitions_at old at) (all at)))
      (λ apart. subst AreInListOrder (sym (removed.others n apart)) (all n))
      (cases_eq n at)

  pub removed_step : (start : List NameEntry) (list : List SharedMacro) (i : ℕ) (known : SharedMacro) → i < length list → known ≡ get_or list i known
      → at ≡ known.value.id.0 → RemovesListed list_id (map numbered_body (take i list)) start old
      → RemovesListed list_id (map numbered_body (take (i + 1) list)) start new
  removed_step start list i known lt is at_is before = record {
    definitions = λ n. ⊎_elim
        (λ (same : n ≡ at).
        let now : definitions_at new n ≡ of_other_lists list_id (definitions_at old n) =
        ap (definitions_at new) same ∙ removed.here ∙ ap (λ k. of_other_lists list_id (definitions_at old k)) (sym same) in
        inl (now ∙ ⊎_elim (λ e. ap (of_other_lists list_id) e ∙ of_other_lists-again list_id (definitions_at start n))
        (λ e. ap (of_other_lists list_id) e.1) (before.definitions n)))
        (λ (apart : n ≢ at).
        ⊎_elim (λ e. inl (removed.others n apart ∙ e))
        (λ e. let own = get_or list i known in
        let none = bodies_of_number-other n (numbered_body own)
        (λ same. apart (sym same ∙ ap (λ (m : SharedMacro). m.value.id.0) (sym is) ∙ sym at_is)) in
        inr (grind (arith, take_more list i known lt, map-append, bodies_of_number-append, none), removed.others n apart ∙ e.1))
        (before.definitions n))
        (cases_eq n at);
    entries = λ all. removed.entries (before.entries all);
  }

-- a name has one more definition
pub defined_at : (list_id n : ℕ) (entries : List NameEntry) (b : NumberedBody) (d x : NameEntry) → b.number < length entries
    → definitions_view x ≡ definitions_view (get_or entries b.number d) ++ definition_of list_id b.body ∷ []
    → definitions_at (set entries b.number x) n ≡ definitions_at entries n ++ map (definition_of list_id) (bodies_of_number n (b ∷ []))
defined_at list_id n entries b d x lt e =
    grind (
      arith,
      cases_eq,
      definitions_at-same,
      definitions_at-other,
      definitions_at-within entries b.number d lt,
      cond-true,
      cond-false,
      eq-eqb,
      ne_eqb,
      append-nil,
      e,
    )

-- the definitions of other lists stay
pub others_at : (list_id i n : ℕ) (entries : List NameEntry) (d x : NameEntry) (body : List TrackedAssignment) → i < length entries → definitions_view
    x ≡
    definitions_view (get_or entries i d) ++ definition_of list_id body ∷ [] → of_other_lists list_id (definitions_at (set entries i x) n) ≡
    of_other_lists list_id (definitions_at entries n)
others_at list_id i n entries d x body lt e =
    grind (
      arith,
      cases_eq,
      definitions_at-same,
      definitions_at-other,
      definitions_at-within entries i d lt,
      of_other_lists-more list_id (definitions_view (get_or entries i d)) (body ∷ []),
      e,
    )

pub same_at : (i n : ℕ) (entries : List NameEntry) (d x : NameEntry) → i < length entries → definitions_view x ≡ definitions_view (get_or entries i d)
    →
    definitions_at (set entries i x) n ≡ definitions_at entries n
same_at i n entries d x lt e =
    grind (arith, cases_eq, definitions_at-same, definitions_at-other, definitions_at-within entries i d lt, e)

-- copies of definitions
pub definitions_copied : (ds copies : List Definition) → AllZip clone.ghosts.is_clone ds copies → map definition_view copies ≡ map definition_view ds
definitions_copied ds copies same = map_copied definition_view clone.ghosts.is_clone (λ x y h. grind arith) ds copies same

pub ids_copied : (number : ℕ) (ds copies : List Definition) → AllZip clone.ghosts.is_clone ds copies → All (λ d. d.metadata.value.id.0 ≡ number) ds
    → All (λ d. d.metadata.value.id.0 ≡ number) copies
ids_copied number ds copies same ids =
    let id = λ (d : Definition). d.metadata.value.id.0 in
    all_of_map (λ k. k ≡ number) id copies
    (subst (All (λ k. k ≡ number)) (sym (map_copied id clone.ghosts.is_clone (λ x y h. grind arith) ds copies same))
    (All-map (λ k. k ≡ number) id ds ids))

-- one more name is copied
pub copied_step : (entries copy now : List NameEntry) (i : ℕ) (item x : NameEntry) → i < length entries → item ≡ get_or entries i item → now ≡ copy ++
    x ∷
    [] → definitions_view x ≡ definitions_view item → all_definitions copy ≡ all_definitions (take i entries) → all_definitions now ≡ all_definitions
    (take (i + 1) entries)
copied_step entries copy now i item x lt at pushed same so_far =
    ap all_definitions pushed ∙ map-append definitions_view copy (x ∷ []) ∙ ap (λ l. l ++ definitions_view x ∷ []) so_far
    ∙ ap (λ d. all_definitions (take i entries) ++ d ∷ []) (same ∙ ap definitions_view at)
    ∙ sym (ap all_definitions (take_more entries i item lt) ∙ map-append definitions_view (take i entries) (get_or entries i item ∷ []))

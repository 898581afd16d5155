-- What additions and removals keep, and what a collection registers after them.
use Rattle.std.proofs.lemmas.Bool.Decides.{nat_tests}
use Rattle.std.proofs.Common.{◌≡◌, ◌≢◌, ◌∙◌, ℕ, suc, ◌-◌, ◌<◌, false, eqb, List, [], ◌∷◌, ◌++◌, length, get_or, map, All}
use Rattle.std.proofs.Common.{nat_eq, eq-eqb, slice_get, Option, Some, unwrap_or, refl, sym, ap, subst, append_assoc, arith}
use Rattle.std.specs.List.{IsDistinct, range_with_len}
use Rattle.std.proofs.lemmas.Bool.{cases_Bool, cond-true, cond-false, true≢false}
use Rattle.std.proofs.lemmas.Grind.{flat_map-append}
use Rattle.std.proofs.lemmas.List.{get_or-map, append-nil, map-append, length-map, length-append, ext_get_or}
use Rattle.std.proofs.lemmas.List.Elements.{All-head, All-tail, All-map, All-pop, All-push, All-weaker, filter-append}
use Rattle.attr_lists.specs.Collections.{MacroDefinition, Collection}
use Rattle.attr_lists.specs.Definitions.{IsSoundCollection, RegistersAs, definition_of}
use Rattle.attr_lists.specs.Definitions.{is_registered, last_body, macro_body, of_other_lists, without_list}
use Rattle.attr_lists.specs.ListViews.{Entry, entries_view}
use Rattle.attr_lists.specs.Numbers.{AppendsNames, AreNamed, names_in, numbered_lines, with_names}
use Rattle.attr_lists.specs.shared.Keeping.{IsNumbered, OthersStayRegistered, StayRegistered}
use Rattle.attr_lists.specs.declared.types.TrackedAssignment.{TrackedAssignment}
use Rattle.attr_lists.proofs.ForCallers.{body_named, definitions_by_name, held_registered, list_numbered, of_other_lists-append}
use Rattle.attr_lists.proofs.ForCallers.{of_other_lists-own, registered_for, removed_for, with_names-extends}
use Rattle.attr_search.specs.IndexedLists.{list_ids_of, listed_view, lists_view}
use Rattle.attr_search.specs.ListView.{Listed}
use Rattle.attr_search.specs.declared.indexed_list.IndexedList.{IndexedList}
use Rattle.attr_search.specs.Settings.{BodiesAreNamed, HeldAreNamed, LinesAreNamed, ListsAreNamed}
use Rattle.attr_search.specs.Slots.{Matched}
use Rattle.gix_attributes.specs.Additions.{RegisteredLists, registered_lists}
use Rattle.gix_attributes.specs.Contents.{bodies_of}
use Rattle.gix_attributes.specs.Covered.{AreCovered, IsCovered, ListsAreCovered}
use Rattle.gix_attributes.specs.Keeping.{Adds, AreApart, Keeps, KeepsSearches, RegistersLast, Removes}
use Rattle.gix_attributes.specs.Registers.{Registered, RegistersExactly, definitions_in, definitions_under, last_definition, lists_registered}
use Rattle.gix_attributes.specs.Registers.{no_lists, with_list_ids, without_registered}
use Rattle.gix_attributes.specs.SearchViews.{Holds, list_ids_in, lists_in}
use Rattle.gix_attributes.specs.inner.HeldLists.{IsHeldList}
use Rattle.gix_attributes.specs.declared.search.attributes.Search.{Search}
use Rattle.gix_attributes.proofs.HoldsLemmas.{distinct-parts, held_lists, held_views, others_held}
use Rattle.std.proofs.lemmas.Option.{slice_get-map, slice_get_within}
use Rattle.gix_attributes.proofs.SelectionLemmas.{body_at, length_bodies}

-- ---- names

get_still : {X : Type 0} (xs more : List X) (i : ℕ) (x : X) → slice_get xs i ≡ Some x → slice_get (xs ++ more) i ≡ Some x
get_still (y ∷ ys) more (suc i) x h = get_still ys more i x h
get_still xs more i x h = grind (arith, nat_tests)

name_still : (old new : List (List ℕ)) → AppendsNames old new → (i : ℕ) (name : List ℕ) → slice_get old i ≡ Some name
    → slice_get new i ≡ Some name
name_still old new more i name h = subst (λ ns. slice_get ns i ≡ Some name) (sym more.1) (get_still old more.0 i name h)

lines_still : (old new : List (List ℕ)) → AppendsNames old new → (lines : List Entry) → LinesAreNamed old lines → LinesAreNamed new lines
lines_still old new more lines h = grind (arith, nat_tests, name_still, All-weaker)

-- what has the numbers of its names still has them when names are appended
pub lists_still : (old new : List (List ℕ)) → AppendsNames old new → (lists : List Listed) → ListsAreNamed old lists → ListsAreNamed new lists
lists_still old new more lists h = grind (arith, nat_tests, lines_still old new more, All-weaker)

pub bodies_still : (old new : List (List ℕ)) → AppendsNames old new → (bodies : List (List TrackedAssignment)) → BodiesAreNamed old bodies
    → BodiesAreNamed new bodies
bodies_still old new more bodies h = grind (arith, nat_tests, All-weaker, name_still)

pub answers_still : (old new : List (List ℕ)) → AppendsNames old new → (answers : List (Option Matched)) → HeldAreNamed old answers
    → HeldAreNamed new answers
answers_still old new more answers h a = grind (arith, nat_tests, name_still)

-- ---- numbers of names

-- numbers of names are below the count of names
line_covered : (names : List (List ℕ)) (e : Entry) → IsNumbered names e → IsCovered (length names) e
line_covered names e is = grind (arith, nat_tests, All-weaker, slice_get_within)

-- numbers of names still are when names are appended
pub covered_still : (old new : List (List ℕ)) → AppendsNames old new → (lists : List Listed) → ListsAreCovered (length old) lists
    → ListsAreCovered (length new) lists
covered_still old new more lists h = grind (arith, nat_tests, length-append, All-weaker)

-- ---- calls that change nothing, and calls in a row

pub keeps_same : (lists : RegisteredLists) → Keeps lists lists
keeps_same lists = grind (arith, nat_tests, append-nil)

pub keeps_then : (one two three : RegisteredLists) → Keeps one two → Keeps two three → Keeps one three
keeps_then one two three first second = grind (arith, nat_tests, append_assoc)

pub adds_same : (lists : RegisteredLists) → Adds lists lists
adds_same lists = grind (arith, nat_tests, append-nil)

pub adds_then : (one two three : RegisteredLists) → Adds one two → Adds two three → Adds one three
adds_then one two three first second = record {
  added = first.added ++ second.added;
  to_search = grind (arith, nat_tests, append_assoc);
  to_collection = λ register h. subst (RegistersExactly three.known) (append_assoc register first.added second.added)
      (second.to_collection (register ++ first.added) (first.to_collection register h));
  held = λ search h. second.held search (first.held search h);
}

-- ---- searches that are held

pub stay_held : (known now : Collection) → StayRegistered known now → KeepsSearches known now
stay_held known now stays search h =
    let items = search.patterns.lists.items in
    let was = held_lists known items h in
    held_views now items (record {
      distinct = was.distinct;
      held = λ k d lt. stays (get_or items k d).list_id (entries_view (get_or items k d).list.patterns.items) (was.held k d lt);
    })

-- a list id that is free is none of a search that is held
free_apart : (known : Collection) (list_id : ℕ) (search : Search) → is_registered known list_id ≡ false → Holds known search
    → All (λ m. m ≢ list_id) (list_ids_in search)
free_apart known list_id search free h =
    let items = search.patterns.lists.items in
    All-map (λ m. m ≢ list_id) (λ (s : IndexedList). s.list_id) items
    (All-weaker (IsHeldList known) (λ (s : IndexedList). s.list_id ≢ list_id)
    (λ s e same. grind (arith, nat_tests, true≢false, held_registered)) items (held_lists known items h).held)

-- ---- lists and their list ids

abbrev registered_view : IndexedList → Registered
registered_view s = record { list_id = s.list_id; list = listed_view s }

views_registered : (items : List IndexedList) → with_list_ids (list_ids_of items) (lists_view items) ≡ map registered_view items
views_registered [] = refl
views_registered (s ∷ ss) = ap (λ rs. registered_view s ∷ rs) (views_registered ss)

one_registered : (before after : List IndexedList) (s : IndexedList) → after ≡ before ++ s ∷ []
    → with_list_ids (list_ids_of after) (lists_view after) ≡ with_list_ids (list_ids_of before) (lists_view before) ++ registered_view s ∷ []
one_registered before after s e = grind (arith, nat_tests, views_registered, map-append)

-- ---- a list is added

abbrev state : List IndexedList → Collection → RegisteredLists
state items known = record { lists = lists_view items; list_ids = list_ids_of items; known = known }

module _ (known now : Collection) (list_id : ℕ) (entries : List Entry) (registers : RegistersAs list_id entries known now) where
  names_now : now.names ≡ with_names known.names (names_in entries)
  names_now = ap (λ (k : Collection). k.names) registers.added

  pub names_added : AppendsNames known.names now.names
  names_added =
      let more = with_names-extends known.names (names_in entries) in
      (more.0, names_now ∙ more.1)

  -- what holds of numbered lines holds of the lines of the list
  pub lines_numbered : (P : List (List ℕ) → Entry → Type 0) → ((names : List (List ℕ)) (e : Entry) → IsNumbered names e → P names e) →
      (lines : List Entry) → lines ≡ numbered_lines now.names entries → All (P now.names) lines
  lines_numbered P from lines lines_are =
      let names = with_names known.names (names_in entries) in
      subst (All (P now.names)) (sym lines_are)
      (subst (λ ns. All (P ns) (numbered_lines ns entries)) (sym names_now)
      (All-weaker (IsNumbered names) (P names) (from names) (numbered_lines names entries) (list_numbered known.names entries)))

  -- a list is registered after all others
  pub registers_more : (list : Listed) → list.lines ≡ numbered_lines now.names entries → IsSoundCollection now
      → RegistersLast known (record { list_id = list_id; list = list }) now
  registers_more list lines_are sound register h = grind (arith, nat_tests, registered_for, registers, flat_map-append, append-nil)

module _ (known now : Collection) (entries : List Entry) (before after : List IndexedList) (s : IndexedList)
    (registers : RegistersAs s.list_id entries known now) (pushed : after ≡ before ++ s ∷ [])
    (lines_are : entries_view s.list.patterns.items ≡ numbered_lines now.names entries) (stays : StayRegistered known now) where
  appends : AppendsNames known.names now.names
  appends = names_added known now s.list_id entries registers

  pub keeps_added : Keeps (state before known) (state after now)
  keeps_added = record {
    names = appends;
    named = λ h. subst (ListsAreNamed now.names) (sym (ap lists_view pushed ∙ map-append listed_view before (s ∷ [])))
        (All-push (λ (l : Listed). LinesAreNamed now.names l.lines) (lists_view before) (listed_view s)
        (lists_still known.names now.names appends (lists_view before) h)
        (lines_numbered known now s.list_id entries registers (λ names e. AreNamed names e.items) (λ names e is. is.items)
        (listed_view s).lines lines_are));
    covered = λ h. subst (ListsAreCovered (length now.names)) (sym (ap lists_view pushed ∙ map-append listed_view before (s ∷ [])))
        (All-push (λ (l : Listed). AreCovered (length now.names) l.lines) (lists_view before) (listed_view s)
        (covered_still known.names now.names appends (lists_view before) h)
        (lines_numbered known now s.list_id entries registers (λ names. IsCovered (length names)) line_covered
        (listed_view s).lines lines_are));
    others = λ other apart held. (
      subst (λ ids. AreApart ids (list_ids_in other))
          (sym (ap list_ids_of pushed ∙ map-append (λ (x : IndexedList). x.list_id) before (s ∷ [])))
          (All-push (λ m. All (λ o. o ≢ m) (list_ids_in other)) (list_ids_of before) s.list_id apart
          (free_apart known s.list_id other registers.fresh held)),
      stay_held known now stays other held,
    );
  }

  pub adds_added : IsSoundCollection now → Adds (state before known) (state after now)
  adds_added sound = record {
    added = registered_view s ∷ [];
    to_search = one_registered before after s pushed;
    to_collection = registers_more known now s.list_id entries registers (listed_view s) lines_are sound;
    held = stay_held known now stays;
  }

-- ---- the last list is removed

-- the definitions under other list ids are left
others_left : (list_id other : ℕ) (bodies : List (List TrackedAssignment)) → eqb other list_id ≡ false
    → of_other_lists list_id (map (definition_of other) bodies) ≡ map (definition_of other) bodies
others_left list_id other [] e = refl
others_left list_id other (b ∷ bs) e = grind (arith, nat_tests, others_left list_id other bs e)

definitions_left : (list_id : ℕ) (name : List ℕ) (register : List Registered) → of_other_lists list_id (definitions_under register name)
    ≡ definitions_under (without_registered list_id register) name
definitions_left list_id name [] = refl
definitions_left list_id name (r ∷ rs) =
    grind (arith, of_other_lists-append, of_other_lists-own, cond-false, others_left, cond-true, cases_Bool, definitions_left list_id name rs)

module _ (known now : Collection) (before after : List IndexedList) (s : IndexedList) (popped : before ≡ after ++ s ∷ [])
    (now_is : now ≡ without_list s.list_id known) (stays : OthersStayRegistered s.list_id known now) where
  names_stay : now.names ≡ known.names
  names_stay = ap (λ (k : Collection). k.names) now_is

  pub keeps_removed : Keeps (state before known) (state after now)
  keeps_removed = record {
    names = ([], names_stay ∙ sym (append-nil known.names));
    named = λ h. subst (λ ns. ListsAreNamed ns (lists_view after)) (sym names_stay)
        (All-pop (λ (l : Listed). LinesAreNamed known.names l.lines) (lists_view before) (lists_view after) (Some (listed_view s))
        (ap lists_view popped ∙ map-append listed_view after (s ∷ [])) h).0;
    covered = λ h. subst (λ ns. ListsAreCovered (length ns) (lists_view after)) (sym names_stay)
        (All-pop (λ (l : Listed). AreCovered (length known.names) l.lines) (lists_view before) (lists_view after) (Some (listed_view s))
        (ap lists_view popped ∙ map-append listed_view after (s ∷ [])) h).0;
    others = λ other apart held.
        let parts = All-pop (λ m. All (λ o. o ≢ m) (list_ids_in other)) (list_ids_of before) (list_ids_of after) (Some s.list_id)
        (ap list_ids_of popped ∙ map-append (λ (x : IndexedList). x.list_id) after (s ∷ [])) apart in (
          parts.0,
          held_views now other.patterns.lists.items (others_held known now s.list_id stays other.patterns.lists.items parts.1
              (held_lists known other.patterns.lists.items held)),
        );
  }

  pub removes_removed : IsSoundCollection now → Removes (state before known) (state after now)
  removes_removed sound = grind (arith, nat_tests, one_registered after before s popped, removed_for known, popped, now_is, definitions_left)

-- ---- searches without lists

pub as_no_lists : (search : Search) (known : Collection) → lists_in search ≡ [] → list_ids_in search ≡ []
    → registered_lists search known ≡ no_lists known
as_no_lists search known none no_ids = grind (arith, nat_tests)

-- ---- the lists of one search alone

ids_registered : (list_ids : List ℕ) (lists : List Listed) → length list_ids ≡ length lists
    → map (λ (r : Registered). r.list_id) (with_list_ids list_ids lists) ≡ list_ids
ids_registered (m ∷ ms) (l ∷ ls) e = ap (λ ids. m ∷ ids) (ids_registered ms ls (omega arith))
ids_registered list_ids lists e = grind (arith, nat_tests)

-- lists without their list ids
pub lists_with_ids : (list_ids : List ℕ) (lists : List Listed) → length list_ids ≡ length lists
    → lists_registered (with_list_ids list_ids lists) ≡ lists
lists_with_ids [] [] e = refl
lists_with_ids [] (l ∷ ls) e = absurd (omega arith)
lists_with_ids (m ∷ ms) [] e = absurd (omega arith)
lists_with_ids (m ∷ ms) (l ∷ ls) e = ap (λ rest. l ∷ rest) (lists_with_ids ms ls (omega arith))

none_left : (list_id : ℕ) (rs : List Registered) → All (λ m. nat_eq m list_id ≡ false) (map (λ (r : Registered). r.list_id) rs)
    → without_registered list_id rs ≡ rs
none_left list_id [] h = refl
none_left list_id (r ∷ rs) h =
    let P : ℕ → Type 0 = λ m. nat_eq m list_id ≡ false in
    let ids = map (λ (x : Registered). x.list_id) rs in
    grind (arith, nat_tests, cond-true, nat_eq, All-head, All-tail, none_left list_id rs (All-tail P r.list_id ids h))

without_last : (rs : List Registered) (r : Registered) → IsDistinct nat_eq (map (λ (x : Registered). x.list_id) (rs ++ r ∷ []))
    → without_registered r.list_id (rs ++ r ∷ []) ≡ rs
without_last rs r distinct = grind (arith, nat_tests, distinct-parts, nat_eq, map-append, filter-append, none_left, cond-false, eq-eqb, append-nil)

-- a collection that registers the lists of a search alone registers what is left of them
pub left_alone : (before after : RegisteredLists) → Removes before after → IsDistinct nat_eq before.list_ids
    → length before.list_ids ≡ length before.lists
    → RegistersExactly before.known (with_list_ids before.list_ids before.lists)
    → RegistersExactly after.known (with_list_ids after.list_ids after.lists)
left_alone before after gone distinct same h =
    let own = with_list_ids before.list_ids before.lists in
    let left = with_list_ids after.list_ids after.lists in
    let ids : List Registered → List ℕ = λ rs. map (λ (r : Registered). r.list_id) rs in
    let differ : IsDistinct nat_eq (ids (left ++ gone.removed ∷ [])) =
    subst (λ rs. IsDistinct nat_eq (ids rs)) gone.of_search
    (subst (IsDistinct nat_eq) (sym (ids_registered before.list_ids before.lists same)) distinct) in
    subst (RegistersExactly after.known)
    (ap (without_registered gone.removed.list_id) gone.of_search ∙ without_last left gone.removed differ)
    (gone.of_collection own h)

-- ---- bodies

-- the bodies of definitions, without their list ids
bodies_under : (register : List Registered) (name : List ℕ) → map (λ (d : MacroDefinition). d.body) (definitions_under register name)
    ≡ definitions_in (lists_registered register) name
bodies_under [] name = refl
bodies_under (r ∷ rs) name = grind (arith, nat_tests, map-append, unmarked, bodies_under rs name)
  where
    unmarked : (m : ℕ) (bodies : List (List TrackedAssignment)) → map (λ (d : MacroDefinition). d.body) (map (definition_of m) bodies) ≡ bodies
    unmarked m [] = refl
    unmarked m (b ∷ bs) = ap (λ xs. b ∷ xs) (unmarked m bs)

last_of : (ds : List MacroDefinition) (bodies : List (List TrackedAssignment)) → map (λ (d : MacroDefinition). d.body) ds ≡ bodies
    → last_body ds ≡ unwrap_or (slice_get bodies (length bodies - 1)) []
last_of ds bodies e = grind (arith, nat_tests, slice_get-map, length-map)

-- the body of each name is the last definition in the lists that are registered
pub bodies_registered : (known : Collection) (register : List Registered) → RegistersExactly known register
    → bodies_of known ≡ map (last_definition (lists_registered register)) known.names
bodies_registered known register h =
    let f = last_definition (lists_registered register) in
    ext_get_or [] (bodies_of known) (map f known.names)
    (length_bodies known ∙ sym (length-map known.names f))
    (λ n lt.
    let below : n < length known.names = omega (arith, lt, length_bodies known) in
    let name = get_or known.names n [] in
    let last = last_of (definitions_under register name) (definitions_in (lists_registered register) name) (bodies_under register name) in
    grind (arith, body_at, definitions_by_name, h.defined name, last, get_or-map, h.sound.distinct))

-- the items of each body have the numbers of their names
pub bodies_have_names : (known : Collection) → IsSoundCollection known → BodiesAreNamed known.names (bodies_of known)
bodies_have_names known sound =
    let numbers = range_with_len 0 (length known.names) in
    All-map (AreNamed known.names) (macro_body known) numbers (λ k number lt. body_named known (get_or numbers k number) sound)

-- The lines of a list, of which a search goes through the candidates alone.
use Rattle.std.proofs.Common.{◌≡◌, ℕ, ◌+◌, ◌<◌, ◌≤◌, Bool, true, false, List, [], length, get_or, Option, Some, None, refl, sym, map, arith, inl}
use Rattle.std.specs.Prelude.{MatchOption, is_none, is_some, option_map, string_bytes, take}
use Rattle.std.proofs.lemmas.List.{append-nil, length-map, get_or-map, take_all}
use mathlib.Core.List.{map-map}
use Rattle.bstr.specs.BStr.{bstr_bytes}
use Rattle.attr_glob.specs.declared.search.pattern.Mapping.{Mapping}
use Rattle.attr_glob.specs.declared.search.pattern.index.Index.{Index}
use Rattle.attr_glob.specs.declared.search.pattern.indexed_line.IndexedLine.{IndexedLine}
use Rattle.attr_glob.specs.Indexed.{NumberedPattern, indexed_line, indexed_lines, listed_lines}
use Rattle.attr_glob.specs.Paths.{path_matches}
use Rattle.attr_glob.specs.Views.{pattern_view}
use Rattle.attr_wildmatch.proofs.ForCallers.{by_test}
use Rattle.attr_lists.specs.declared.types.Value.{Value}
use Rattle.attr_lists.specs.declared.types.TrackedAssignment.{TrackedAssignment}
use Rattle.attr_lists.specs.ListViews.{entry_view, entries_view, items_in, macro_id}
use Rattle.attr_lists.specs.Numbers.{AreNamed}
use Rattle.attr_table.specs.Setting.{Item, Origin}
use Rattle.attr_table.specs.Table.{Slots}
use Rattle.attr_table.specs.shared.Walk.{Searches, tasks_in}
use Rattle.attr_table.proofs.ForCallers.{nothing_taken, passes_items}
use Rattle.attr_search.specs.declared.indexed_list.IndexedList.{IndexedList}
use Rattle.attr_search.specs.declared.path_query.PathQuery.{PathQuery}
use Rattle.attr_search.specs.IndexedLists.{listed_view}
use Rattle.attr_search.specs.ListView.{Listed}
use Rattle.attr_search.specs.SearchContents.{SearchContents}
use Rattle.attr_search.specs.shared.SlotContents.{open_slots}
use Rattle.attr_search.specs.Settings.{HaveSlots, LinesAreNamed, gives, origin_in}
use Rattle.attr_search.specs.Slots.{table_items}
use Rattle.attr_search.specs.inner.EntryAt.{entry_at}
use Rattle.attr_search.specs.inner.Lines.{listed_tasks}
use Rattle.attr_search.specs.inner.Pending.{AreFilled}
use Rattle.attr_search.specs.inner.Searched.{SearchedLine, over, round, state_bodies, state_wanted}
use Rattle.attr_search.specs.shared.Slotted.{LinesHaveSlots, indexed_origin, index_origin, origin_of}
use Rattle.attr_search.proofs.EntryAtLemmas.{entry_is}
use Rattle.attr_search.proofs.FillingLemmas.{filled_items}

-- a line that fills no slot, tested or not
unfilled : (rest : PathQuery) (listed : Listed) (index tested : ℕ) (state : SearchContents) →
    Searches (state_bodies state) (state_wanted state) (listed_tasks rest listed index) (open_slots state) (open_slots state)
    state.taken state.taken →
    state.tested ≤ tested → tested ≤ state.tested + 1 → SearchedLine rest listed index state (record state { tested = tested })
unfilled rest listed index tested state p le most = record {
  named = λ names items bodies held. held;
  tested = most;
  rounds = round (record { searches = p; changed = inl refl; counted = le }) over;
}

-- a line that gives nothing: one that defines a macro, and one that does not match
not_given : (rest : PathQuery) (listed : Listed) (index tested : ℕ) (state : SearchContents) →
    gives rest.case rest.is_dir (Some (bstr_bytes rest.path)) (entry_at listed.lines index) ≡ false →
    state.tested ≤ tested → tested ≤ state.tested + 1 → SearchedLine rest listed index state (record state { tested = tested })
not_given rest listed index tested state none le most =
    unfilled rest listed index tested state
    (rw none (nothing_taken (state_bodies state) (state_wanted state) (open_slots state) state.taken)) le most

pub line_defines : (rest : PathQuery) (list : IndexedList) (index : ℕ) (m : Mapping Value) (state : SearchContents) →
    index < length list.list.patterns.items → m ≡ get_or list.list.patterns.items index m → is_none (macro_id m.value) ≡ false →
    SearchedLine rest (listed_view list) index state state
line_defines rest list index m state lt is defines =
    let e = entry_is list.list.patterns.items index m lt is in
    not_given rest (listed_view list) index state.tested state (rw (e, defines) refl) (omega arith) (omega arith)

pub line_differs : (rest : PathQuery) (listed : Listed) (index tested : ℕ) (state : SearchContents) (answer : Bool) →
    answer ≡ path_matches rest.case (entry_at listed.lines index).pattern (bstr_bytes rest.path) rest.is_dir → answer ≡ false →
    state.tested ≤ tested → tested ≤ state.tested + 1 → SearchedLine rest listed index state (record state { tested = tested })
line_differs rest listed index tested state answer told other le most = grind (arith, not_given)

-- no item of a line is free
pub none_told : (B : ℕ → Type 0) (slots : Slots) (items : List TrackedAssignment) (last : Option ℕ) →
    MatchOption last (AreFilled slots (take (length items) items)) B → is_some last ≡ false → AreFilled slots items
none_told B slots items last told none = grind (arith, take_all)

-- then it is passed over
line_passed : (bodies : List (List Item)) (wanted : List ℕ) (origin : Origin) (cause : Option ℕ) (items : List TrackedAssignment) (slots : Slots)
    (taken : ℕ) → AreFilled slots items → Searches bodies wanted (tasks_in origin cause (table_items items)) slots slots taken taken
line_passed bodies wanted origin cause items slots taken filled =
    rw append-nil at (passes_items bodies wanted origin cause (table_items items) [] slots slots taken taken (filled_items slots items filled)
    (nothing_taken bodies wanted slots taken))

pub line_filled : (rest : PathQuery) (list : IndexedList) (index : ℕ) (m : Mapping Value) (items : List TrackedAssignment) (state : SearchContents) →
    index < length list.list.patterns.items → m ≡ get_or list.list.patterns.items index m → items ≡ items_in m.value →
    AreFilled (open_slots state) items → SearchedLine rest (listed_view list) index state state
line_filled rest list index m items state lt is given filled =
    let e = entry_is list.list.patterns.items index m lt is in
    let slots = open_slots state in
    by_test (gives rest.case rest.is_dir (Some (bstr_bytes rest.path)) (entry_view m))
    (λ t. unfilled rest (listed_view list) index state.tested state
    (rw (e, t) (line_passed (state_bodies state) (state_wanted state) (origin_in (listed_view list).source (entry_view m)) None
    (items_in m.value) slots state.taken (rw given at filled)))
    (omega arith) (omega arith))
    (λ f. not_given rest (listed_view list) index state.tested state (rw e f) (omega arith) (omega arith))

-- a line that matches, and was tested if it changed slots
pub line_matched : (rest : PathQuery) (list : IndexedList) (index : ℕ) (m : Mapping Value) (items : List TrackedAssignment)
    (before : SearchContents) (after : Slots) (taken : ℕ) (answer : Bool) (origin : Origin) →
    index < length list.list.patterns.items → m ≡ get_or list.list.patterns.items index m → items ≡ items_in m.value → macro_id m.value ≡ None →
    answer ≡ path_matches rest.case (entry_at (listed_view list).lines index).pattern (bstr_bytes rest.path) rest.is_dir → answer ≡ true →
    origin ≡ origin_of (listed_view list).source m →
    Searches (state_bodies before) (state_wanted before) (tasks_in origin None (table_items items)) (open_slots before) after
    before.taken taken →
    Searches (state_bodies before) (state_wanted before) (listed_tasks rest (listed_view list) index) (open_slots before) after
    before.taken taken
line_matched rest list index m items before after taken answer origin lt is given plain told same there p = grind (arith, entry_is)

-- a line of an index is where that of its list is
numbered_origin : Option (List ℕ) → NumberedPattern → Origin
numbered_origin source n =
    record { text = n.pattern.text; mode = n.pattern.mode; wildcard = n.pattern.wildcard; source = source; line = n.number }

indexed_origins : (source : Option (List ℕ)) (lines : List IndexedLine) → map (indexed_origin source) lines
    ≡ map (numbered_origin source) (indexed_lines lines)
unfolding numbered_origin
indexed_origins source lines = sym (map-map (numbered_origin source) indexed_line lines)

listed_origins : (source : Option (List ℕ)) (ms : List (Mapping Value)) → map (numbered_origin source) (listed_lines ms) ≡ map (origin_of source) ms
unfolding numbered_origin
listed_origins source ms =
    map-map (numbered_origin source) (λ (m : Mapping Value). record { pattern = pattern_view m.pattern; number = m.sequence_number }) ms

pub origin_is : (known : Index) (source : Option (List ℕ)) (ms : List (Mapping Value)) (index : ℕ) (m : Mapping Value) →
    indexed_lines known.lines.items ≡ listed_lines ms → option_map string_bytes known.source ≡ source → index < length ms → m ≡ get_or ms index m →
    index_origin known index ≡ origin_of source m
origin_is known source ms index m lines e lt is = grind (arith, indexed_origins, numbered_origin, listed_origins, get_or-map)

-- what is known of the line at an index
pub slots_at : (n : ℕ) (ms : List (Mapping Value)) (index : ℕ) (m : Mapping Value) (items : List TrackedAssignment) →
    index < length ms → m ≡ get_or ms index m → items ≡ items_in m.value → LinesHaveSlots n (entries_view ms) → HaveSlots n items
slots_at n ms index m items lt is given all = grind (arith, length-map, entry_is)

pub named_at : (names : List (List ℕ)) (ms : List (Mapping Value)) (index : ℕ) (m : Mapping Value) (items : List TrackedAssignment) →
    index < length ms → m ≡ get_or ms index m → items ≡ items_in m.value → LinesAreNamed names (entries_view ms) → AreNamed names items
named_at names ms index m items lt is given all = grind (arith, length-map, entry_is)

-- Lines that a search goes through one by one.
use Rattle.std.proofs.Common.{◌≡◌, ℕ, suc, ◌-◌, ◌<◌, inl, Bool, true, false, List, [], ◌∷◌, ◌++◌, length, reverse, map, get_or}
use Rattle.std.proofs.Common.{Option, Some, None, refl, ap, subst, ◌∙◌, arith}
use Rattle.std.specs.Prelude.{◌==◌, ◌||◌, ◌&&◌, is_none, is_some, if◌then◌else◌}
use Rattle.std.specs.List.{flat_map, list_all}
use Rattle.std.proofs.lemmas.Grind.{flat_map-append}
use Rattle.std.proofs.lemmas.List.{append-nil}
use Rattle.std.proofs.lemmas.List.Concat.{flat_map_single}
use Rattle.bstr.specs.BStr.{bstr_bytes}
use Rattle.attr_glob.specs.Bases.{rest_below}
use Rattle.attr_glob.specs.Candidates.{indexes_where}
use Rattle.attr_glob.specs.Paths.{path_matches}
use Rattle.attr_glob.specs.Views.{patterns_of}
use Rattle.attr_wildmatch.proofs.ForCallers.{and_parts, by_test}
use Rattle.attr_wildmatch.specs.declared.case.Case.{Case}
use Rattle.attr_lists.specs.ListViews.{Entry, entries_view}
use Rattle.attr_lists.specs.declared.types.AttributeId.{AttributeId}
use Rattle.attr_lists.specs.declared.types.TrackedAssignment.{TrackedAssignment}
use Rattle.attr_table.specs.Setting.{Item, Line, Origin}
use Rattle.attr_table.specs.Cut.{is_done}
use Rattle.attr_table.specs.shared.Walk.{Task, Searches, backwards, line_tasks, list_tasks, tasks_in, tasks_of}
use Rattle.attr_table.proofs.ForCallers.{done_taken, nothing_taken, then_searches}
use Rattle.attr_search.specs.declared.indexed_list.IndexedList.{IndexedList}
use Rattle.attr_search.specs.declared.path_query.PathQuery.{PathQuery}
use Rattle.attr_search.specs.IndexedLists.{listed_view}
use Rattle.attr_search.specs.ListView.{Listed, rest_for}
use Rattle.attr_search.specs.SearchContents.{SearchContents}
use Rattle.attr_search.specs.shared.SlotContents.{open_slots}
use Rattle.attr_search.specs.Settings.{line_of, origin_in}
use Rattle.attr_search.specs.Slots.{table_items}
use Rattle.attr_search.specs.inner.EntryAt.{entry_at, no_entry}
use Rattle.attr_search.specs.inner.Lines.{entry_tasks, gives_nothing, list_rounds, query_lines, rounds_of}
use Rattle.attr_search.specs.inner.Searched.{LineDone, Rounds, over, round}
use Rattle.attr_search.specs.inner.Trying.{AreTried}
use Rattle.attr_search.proofs.CandidateLemmas.{backwards-reverse, turned_at, passed_entry, tried_turned}
use Rattle.attr_search.proofs.EntryAtLemmas.{lines_patterns}

-- lines after others
pub rounds_append : {bodies : List (List Item)} {wanted : List ℕ} {xs ys : List (List Task)} {first second third : SearchContents} →
    Rounds bodies wanted xs first second → Rounds bodies wanted ys second third → Rounds bodies wanted (xs ++ ys) first third
rounds_append over q = q
rounds_append (round line p) q = round line (rounds_append p q)

-- a line without tasks, and lines once the search is done
no_tasks : (bodies : List (List Item)) (wanted : List ℕ) (state : SearchContents) → LineDone bodies wanted [] state state
no_tasks bodies wanted state =
    record { searches = nothing_taken bodies wanted (open_slots state) state.taken; changed = inl refl; counted = omega arith }

pub rounds_done : (bodies : List (List Item)) (wanted : List ℕ) (lines : List (List Task)) (state : SearchContents) →
    is_done wanted (open_slots state) ≡ true → Rounds bodies wanted lines state state
rounds_done bodies wanted [] state done = over
rounds_done bodies wanted (tasks ∷ lines) state done =
    round (record { searches = done_taken bodies wanted tasks (open_slots state) state.taken done; changed = inl refl; counted = omega arith })
    (rounds_done bodies wanted lines state done)

-- the tasks of all lines
rounds_joined : (bodies : List (List Item)) (wanted : List ℕ) {lines : List (List Task)} {first second : SearchContents} →
    Rounds bodies wanted lines first second →
    Searches bodies wanted (flat_map (λ tasks. tasks) lines) (open_slots first) (open_slots second) first.taken second.taken
rounds_joined bodies wanted (over {state = state}) = nothing_taken bodies wanted (open_slots state) state.taken
rounds_joined bodies wanted (round {tasks = tasks} {lines = lines} {before = first} {middle = second} {after = third} line p) =
    then_searches bodies wanted tasks (flat_map (λ tasks. tasks) lines) (open_slots first) (open_slots second) (open_slots third)
    first.taken second.taken third.taken line.searches (rounds_joined bodies wanted p)

list_joined : (lines : List Line) → flat_map (λ tasks. tasks) (list_rounds lines) ≡ list_tasks lines
list_joined [] = refl
list_joined (line ∷ lines) = grind (arith, flat_map-append, append-nil, list_joined lines)

lists_joined : (lists : List (List Line)) → flat_map (λ tasks. tasks) (rounds_of lists) ≡ tasks_of lists
lists_joined [] = refl
lists_joined (lines ∷ lists) = grind (arith, flat_map-append, list_joined, lists_joined lists)

pub rounds_walked : (bodies : List (List Item)) (wanted : List ℕ) (lists : List (List Line)) {first second : SearchContents} →
    Rounds bodies wanted (rounds_of lists) first second →
    Searches bodies wanted (tasks_of lists) (open_slots first) (open_slots second) first.taken second.taken
rounds_walked bodies wanted lists p = rw (lists_joined lists) at (rounds_joined bodies wanted p)

-- lines that are passed over change nothing
put_first : {bodies : List (List Item)} {wanted : List ℕ} {x : List Task} (y : List Task) {xs ys : List (List Task)} {before after : SearchContents} →
    x ≡ y → Rounds bodies wanted (x ∷ xs) before after →
    ((middle : SearchContents) → Rounds bodies wanted xs middle after → Rounds bodies wanted ys middle after) →
    Rounds bodies wanted (y ∷ ys) before after
put_first {bodies} {wanted} {x} y {xs} {ys} {before} same (round {middle = middle} line p) go =
    round (subst (λ tasks. LineDone bodies wanted tasks before middle) same line) (go middle p)

rounds_passed : {X : Type 0} (bodies : List (List Item)) (wanted : List ℕ) (f : X → List Task) (test : X → Bool) (all rev : List X) (d : X)
    {before after : SearchContents} →
    ((k : ℕ) → k < length rev → get_or all (length rev - 1 - k) d ≡ get_or rev k d) →
    ((k : ℕ) → k < length rev → test (get_or rev k d) ≡ false → f (get_or rev k d) ≡ []) →
    Rounds bodies wanted (map (λ index. f (get_or all index d)) (indexes_where test rev)) before after →
    Rounds bodies wanted (map f rev) before after
rounds_passed bodies wanted f test all [] d same none p = p
rounds_passed {X} bodies wanted f test all (x ∷ rev) d {before} {after} same none p =
    let here : get_or all (length rev) d ≡ x = ap (λ n. get_or all n d) first ∙ same 0 (omega arith) in
    let g : ℕ → List Task = λ index. f (get_or all index d) in
    let go : (middle : SearchContents) → Rounds bodies wanted (map g (indexes_where test rev)) middle after → Rounds bodies wanted (map f rev)
    middle after =
    λ middle q.
    rounds_passed bodies wanted f test all rev d
    (λ k lt. ap (λ n. get_or all n d) (index k lt) ∙ same (suc k) (omega arith))
    (λ k lt out. none (suc k) (omega arith) out) q in
    by_test (test x)
    (λ t. put_first (f x) (ap f here) (rw t at p) go)
    (λ e. round (rw (none 0 (omega arith) e) (no_tasks bodies wanted before)) (go before (rw e at p)))
  where
    index : (k : ℕ) → k < length rev → length rev - 1 - k ≡ length (x ∷ rev) - 1 - suc k
    index k lt = omega arith

    first : length rev ≡ length (x ∷ rev) - 1 - 0
    first = omega arith

list_turned : (g : Entry → Line) (lines : List Entry) → list_rounds (map g lines) ≡ map (λ entry. line_tasks (g entry)) (reverse lines)
list_turned g lines =
    plain lines
    ∙ (backwards-reverse (λ (entry : Entry). line_tasks (g entry) ∷ []) lines
    ∙ flat_map_single (λ (entry : Entry). line_tasks (g entry)) (reverse lines))
  where
    plain : (xs : List Entry) → backwards (λ line. line_tasks line ∷ []) (map g xs) ≡ backwards (λ x. line_tasks (g x) ∷ []) xs
    plain [] = refl
    plain (x ∷ xs) = ap (λ ts. ts ++ line_tasks (g x) ∷ []) (plain xs)

-- a list is gone through by the lines that are tried
pub list_round : (bodies : List (List Item)) (wanted : List ℕ) (query : PathQuery) (path : List ℕ) (list : IndexedList) (found : List ℕ)
    (before after : SearchContents) →
    Some path ≡ rest_below (listed_view list).base query.case (bstr_bytes query.path) →
    AreTried query.case path (patterns_of list.list.patterns.items) found →
    Rounds bodies wanted (map (λ index. entry_tasks query.case query.is_dir (listed_view list).source path
    (entry_at (listed_view list).lines index)) found) before after →
    Rounds bodies wanted (list_rounds (query_lines query (listed_view list))) before after
list_round bodies wanted query path list found before after below are p =
    let all = entries_view list.list.patterns.items in
    let source = (listed_view list).source in
    let f : Entry → List Task = entry_tasks query.case query.is_dir source path in
    let test : Entry → Bool = λ entry. are.test entry.pattern in
    let turned : found ≡ indexes_where test (reverse all) = are.tried
    ∙ (ap (λ rs. indexes_where are.test (reverse rs)) (lines_patterns list.list.patterns.items) ∙ tried_turned are.test all) in
    let q = rounds_passed bodies wanted f test all (reverse all) no_entry (λ k lt. turned_at all k no_entry lt)
    (λ k lt out. passed_entry query.case query.is_dir source path are.test are.matching all list.read k lt out) (rw turned at p) in
    grind (arith, list_turned)

-- a list whose lines give nothing
no_items : (macro : Option AttributeId) (items : List TrackedAssignment) (matches : Bool) (origin : Origin) →
    is_some macro || (length items == 0) ≡ true → tasks_in origin None (if is_none macro && matches then table_items items else []) ≡ []
no_items (Some id) items matches origin none = refl
no_items None [] matches origin none = by_test matches (λ t. rw t refl) (λ f. rw f refl)
no_items None (i ∷ items) matches origin none = absurd (grind arith)

nothing_given : (case : Case) (is_dir : Option Bool) (source rest : Option (List ℕ)) (entry : Entry) → gives_nothing entry ≡ true →
    line_tasks (line_of case is_dir source rest entry) ≡ []
nothing_given case is_dir source None entry none = refl
nothing_given case is_dir source (Some rest) entry none =
    no_items entry.macro entry.items (path_matches case entry.pattern rest is_dir) (origin_in source entry) none

pub list_passed : (bodies : List (List Item)) (wanted : List ℕ) (query : PathQuery) (listed : Listed) (state : SearchContents) →
    list_all gives_nothing listed.lines ≡ true → Rounds bodies wanted (list_rounds (query_lines query listed)) state state
list_passed bodies wanted query listed state all = passed listed.lines all
  where
    rest : Option (List ℕ)
    rest = rest_for query.case (bstr_bytes query.path) listed

    passed : (lines : List Entry) → list_all gives_nothing lines ≡ true →
        Rounds bodies wanted (list_rounds (map (line_of query.case query.is_dir listed.source rest) lines)) state state
    passed [] all = over
    passed (l ∷ lines) all =
        let both = and_parts (gives_nothing l) (list_all gives_nothing lines) all in
        rounds_append (passed lines both.1)
        (round (rw (nothing_given query.case query.is_dir listed.source rest l both.0) (no_tasks bodies wanted state)) over)

-- a list that does not apply
pub list_unasked : (bodies : List (List Item)) (wanted : List ℕ) (query : PathQuery) (listed : Listed) (state : SearchContents) →
    None ≡ rest_below listed.base query.case (bstr_bytes query.path) → Rounds bodies wanted (list_rounds (query_lines query listed)) state state
list_unasked bodies wanted query listed state none = rw (← none) (empty listed.lines)
  where
    empty : (lines : List Entry) → Rounds bodies wanted (list_rounds (map (line_of query.case query.is_dir listed.source None) lines)) state state
    empty [] = over
    empty (l ∷ lines) = rounds_append (empty lines) (round (no_tasks bodies wanted state) over)

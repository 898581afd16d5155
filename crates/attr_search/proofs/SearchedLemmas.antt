-- Parts of a search, one after another.
use Rattle.std.proofs.Common.{◌≡◌, ℕ, ◌+◌, ◌<◌, ◌≤◌, ◌⊎◌, false, true, List, [], ◌∷◌, ◌++◌, length, map, get_or, take, drop, Some, None}
use Rattle.std.proofs.Common.{refl, sym, arith, subst, zero, suc, length-append}
use Rattle.std.specs.Prelude.{slice_get}
use Rattle.std.specs.List.{list_all}
use Rattle.std.specs.List.Sorted.{IsNonDecreasing}
use Rattle.std.proofs.Math.ListN
use Rattle.std.proofs.lemmas.List.{length-map, map-append, take_more, take-append-drop}
use Rattle.std.proofs.lemmas.List.Elements.{All-head, All-tail}
use Rattle.std.proofs.lemmas.List.Sums.{sum_by-cons}
use Rattle.bstr.specs.BStr.{bstr_bytes}
use Rattle.attr_glob.specs.Bases.{rest_below}
use Rattle.attr_lists.specs.ListViews.{entries_view}
use Rattle.attr_glob.specs.Views.{patterns_of}
use Rattle.attr_table.specs.Cut.{is_done}
use Rattle.attr_table.specs.shared.Walk.{Task}
use Rattle.attr_search.specs.declared.indexed_list.IndexedList.{IndexedList}
use Rattle.attr_search.specs.declared.path_query.PathQuery.{PathQuery}
use Rattle.attr_search.specs.IndexedLists.{listed_view, lists_view}
use Rattle.attr_search.specs.ListView.{Listed}
use Rattle.attr_search.specs.SearchContents.{SearchContents}
use Rattle.attr_search.specs.shared.SlotContents.{open_slots}
use Rattle.attr_search.specs.Settings.{LinesAreNamed, candidates_in}
use Rattle.attr_search.specs.shared.Slotted.{LinesHaveSlots, ListsHaveSlots}
use Rattle.attr_search.specs.inner.FoundLists.{AreListsFor}
use Rattle.attr_search.specs.inner.Lines.{gives_nothing}
use Rattle.attr_search.specs.inner.Searched.{KeepsState, Rounds, Searched, SearchedLine, SearchedLines, SearchedList, SearchedLists}
use Rattle.attr_search.specs.inner.Searched.{over, state_bodies, state_wanted}
use Rattle.attr_search.specs.inner.Trying.{AreTried}
use Rattle.attr_search.proofs.CandidateLemmas.{tried_most}
use Rattle.attr_search.proofs.RoundLemmas.{list_passed, list_round, list_unasked, rounds_append, rounds_done}

-- what is kept, and what is kept twice
pub state_kept : (state : SearchContents) → KeepsState state state
state_kept state = record { wanted = refl; needed = refl; bodies = refl; len = refl; skipped = λ a skip. refl }

pub then_kept : (first second third : SearchContents) → KeepsState first second → KeepsState second third → KeepsState first third
then_kept first second third p q = grind arith

-- nothing, anything once the search is done, and one part after another
pub nothing_searched : {Named : List (List ℕ) → Type 0} (most : ℕ) (state : SearchContents) → Searched Named most [] state state
nothing_searched most state = record { named = λ names items bodies held. held; tested = omega arith; rounds = over }

pub done_searched : {Named : List (List ℕ) → Type 0} {most : ℕ} {lines : List (List Task)} (state : SearchContents) →
    is_done (state_wanted state) (open_slots state) ≡ true → Searched Named most lines state state
done_searched {lines = lines} state done = grind (arith, rounds_done)

rounds_from : {lines : List (List Task)} (first second third : SearchContents) → KeepsState first second →
    Rounds (state_bodies second) (state_wanted second) lines second third → Rounds (state_bodies first) (state_wanted first) lines second third
rounds_from {lines} first second third kept p = grind arith

-- lines at indexes: one more, and all if the search is done
indexes_append : (rest : PathQuery) (listed : Listed) (xs ys : List ℕ) (first second third : SearchContents) → KeepsState first second →
    SearchedLines rest listed xs first second → SearchedLines rest listed ys second third → SearchedLines rest listed (xs ++ ys) first third
indexes_append rest listed xs ys first second third kept p q = grind (arith, length-append, map-append, rounds_append, rounds_from)

-- queries for one path search a line alike
pub line_of_query : (a b : PathQuery) (listed : Listed) (index : ℕ) (first second : SearchContents) → a.path ≡ b.path → a.case ≡ b.case →
    a.is_dir ≡ b.is_dir → SearchedLine a listed index first second → SearchedLine b listed index first second
line_of_query a b listed index first second path case is_dir done = grind arith

pub more_indexes : (rest : PathQuery) (listed : Listed) (indexes : List ℕ) (k index : ℕ) (first second third : SearchContents) →
    KeepsState first second → k < length indexes → index ≡ get_or indexes k index → SearchedLines rest listed (take k indexes) first second →
    SearchedLine rest listed index second third → SearchedLines rest listed (take (k + 1) indexes) first third
more_indexes rest listed indexes k index first second third kept lt is p q =
    grind (arith, take_more indexes k index lt, indexes_append rest listed (take k indexes) (index ∷ []) first second third kept p q)

pub indexes_done : (rest : PathQuery) (listed : Listed) (indexes : List ℕ) (k : ℕ) (first second : SearchContents) →
    KeepsState first second → is_done (state_wanted second) (open_slots second) ≡ true →
    SearchedLines rest listed (take k indexes) first second → SearchedLines rest listed indexes first second
indexes_done rest listed indexes k first second kept done p =
    subst (λ xs. SearchedLines rest listed xs first second) (take-append-drop k indexes)
    (indexes_append rest listed (take k indexes) (drop k indexes) first second second kept p (done_searched second done))

-- a list that does not apply to the path, one whose candidates were searched, and one whose lines give nothing
pub list_apart : (query : PathQuery) (listed : Listed) (state : SearchContents) →
    None ≡ rest_below listed.base query.case (bstr_bytes query.path) → SearchedList query listed state state
list_apart query listed state none = grind (arith, list_unasked)

pub list_by_candidates : (query rest : PathQuery) (list : IndexedList) (found : List ℕ) (before after : SearchContents) →
    Some (bstr_bytes rest.path) ≡ rest_below (listed_view list).base query.case (bstr_bytes query.path) → rest.case ≡ query.case →
    rest.is_dir ≡ query.is_dir → AreTried rest.case (bstr_bytes rest.path) (patterns_of list.list.patterns.items) found →
    SearchedLines rest (listed_view list) found before after → SearchedList query (listed_view list) before after
list_by_candidates query rest list found before after below case dir are p =
    let tried = rw case at are in
    let most = tried_most query (bstr_bytes rest.path) list found below tried in
    record {
      named = p.named;
      tested = let tested = p.tested in omega (arith, most);
      rounds = list_round (state_bodies before) (state_wanted before) query (bstr_bytes rest.path) list found before after below tried
          (rw (case, dir) at p.rounds);
    }

pub list_idle : (query : PathQuery) (list : IndexedList) (state : SearchContents) →
    list_all gives_nothing (entries_view list.list.patterns.items) ≡ true → SearchedList query (listed_view list) state state
list_idle query list state all =
    record {
      named = λ names items bodies held. held;
      tested = omega arith;
      rounds = list_passed (state_bodies state) (state_wanted state) query (listed_view list) state all;
    }

-- one more list, and all if the search is done
pub more_lists : (query : PathQuery) (listed : Listed) (lists : List Listed) (first second third : SearchContents) → KeepsState first second →
    SearchedLists query lists first second → SearchedList query listed second third → SearchedLists query (listed ∷ lists) first third
more_lists query listed lists first second third kept p q =
    let count = sum_by-cons (candidates_in query.case (bstr_bytes query.path)) listed lists in
    record {
      named = λ names items bodies held.
          q.named names (All-head (λ l. LinesAreNamed names l.lines) listed lists items) (rw kept.bodies bodies)
          (p.named names (All-tail (λ l. LinesAreNamed names l.lines) listed lists items) bodies held);
      tested = let a = p.tested in let b = q.tested in omega (arith, count);
      rounds = rounds_append p.rounds (rounds_from first second third kept q.rounds);
    }

pub lists_done : (query : PathQuery) (lists : List IndexedList) (k : ℕ) (first second : SearchContents) →
    KeepsState first second → is_done (state_wanted second) (open_slots second) ≡ true →
    SearchedLists query (lists_view (drop k lists)) first second → SearchedLists query (lists_view lists) first second
lists_done query lists zero first second kept done p = p
lists_done query [] (suc k) first second kept done p = p
lists_done query (list ∷ lists) (suc k) first second kept done p =
    more_lists query (listed_view list) (lists_view lists) first second second kept (lists_done query lists k first second kept done p)
    (done_searched second done)

-- the list has no line for paths, or doesn't apply to the path
abbrev pub IsApart : PathQuery → IndexedList → Type 0
IsApart query list = (list.is_idle ≡ true) ⊎ (None ≡ rest_below (listed_view list).base query.case (bstr_bytes query.path))

-- and so are the lists with numbers from one on and below another
abbrev pub ApartBetween : PathQuery → List IndexedList → ℕ → ℕ → Type 0
ApartBetween query lists low high =
    (number : ℕ) (list : IndexedList) → low ≤ number → number < high → slice_get lists number ≡ Some list → IsApart query list

passed_over : (query : PathQuery) (list : IndexedList) (state : SearchContents) → IsApart query list →
    SearchedList query (listed_view list) state state
passed_over query list state h = grind (arith, list_idle query list state, list_apart query (listed_view list) state)

pub skip_lists : (query : PathQuery) (lists : List IndexedList) (low high : ℕ) (first second : SearchContents) → KeepsState first second →
    low ≤ high → ApartBetween query lists low high → SearchedLists query (lists_view (drop high lists)) first second →
    SearchedLists query (lists_view (drop low lists)) first second
skip_lists query lists zero zero first second kept le apart p = p
skip_lists query lists (suc low) zero first second kept le apart p = absurd (omega arith)
skip_lists query [] zero (suc high) first second kept le apart p = p
skip_lists query [] (suc low) (suc high) first second kept le apart p = p
skip_lists query (list ∷ lists) zero (suc high) first second kept le apart p =
    more_lists query (listed_view list) (lists_view lists) first second second kept
    (skip_lists query lists 0 high first second kept (omega arith)
    (λ number l ge below has. apart (suc number) l (omega arith) (omega arith) has) p)
    (passed_over query list second (apart 0 list (omega arith) (omega arith) refl))
skip_lists query (list ∷ lists) (suc low) (suc high) first second kept le apart p =
    skip_lists query lists low high first second kept (omega arith)
    (λ number l ge below has. apart (suc number) l (omega arith) (omega arith) has) p

-- of the lists below a bound, those that apply are among the first of the numbers
abbrev pub AreLeft : PathQuery → List IndexedList → ℕ → ℕ → List ℕ → Type 0
AreLeft query lists bound k numbers =
    (number : ℕ) (list : IndexedList) (rest : List ℕ) → number < bound → slice_get lists number ≡ Some list → list.is_idle ≡ false →
    rest_below (listed_view list).base query.case (bstr_bytes query.path) ≡ Some rest →
    (index : ℕ) × (index < k) × (get_or numbers index 0 ≡ number)

-- those above the greatest number that is left don't apply
pub apart_above : (query : PathQuery) (lists : List IndexedList) (bound k : ℕ) (numbers : List ℕ) → k < length numbers → IsNonDecreasing numbers →
    AreLeft query lists bound (k + 1) numbers → ApartBetween query lists (get_or numbers k 0 + 1) bound
apart_above query lists bound k numbers lt rising left = grind arith

-- fewer are left after the greatest
pub left_less : (query : PathQuery) (lists : List IndexedList) (bound less k : ℕ) (numbers : List ℕ) → less ≤ bound →
    less ≤ get_or numbers k 0 → AreLeft query lists bound (k + 1) numbers → AreLeft query lists less k numbers
left_less query lists bound less k numbers le most left = grind arith

-- at the end none is left
pub apart_below : (query : PathQuery) (lists : List IndexedList) (bound k : ℕ) (numbers : List ℕ) → k ≤ 0 →
    AreLeft query lists bound k numbers → ApartBetween query lists 0 bound
apart_below query lists bound k numbers no_more left = grind arith

-- at the beginning all are
get_at : (numbers : List ℕ) (index number : ℕ) → index < length numbers → get_or numbers index number ≡ number → get_or numbers index 0 ≡ number
get_at (n ∷ numbers) (suc index) number lt is = get_at numbers index number (omega (arith, lt)) is
get_at numbers index number lt is = grind arith

pub all_left : (query : PathQuery) (lists : List IndexedList) (bound : ℕ) (numbers : List ℕ) →
    AreListsFor query.case (bstr_bytes query.path) lists numbers → AreLeft query lists bound (length numbers) numbers
all_left query lists bound numbers are = grind (arith, get_at)

-- what is known of the list at an index
pub list_slots : (n m : ℕ) (lists : List IndexedList) (k : ℕ) (s : IndexedList) → m ≡ n → k < length lists → s ≡ get_or lists k s →
    ListsHaveSlots n (lists_view lists) → LinesHaveSlots m (listed_view s).lines
list_slots n m lists k s same lt is all =
    let long = length-map lists listed_view in
    let here : LinesHaveSlots n (get_or (map listed_view lists) k (listed_view s)).lines = all k (listed_view s) (omega arith) in
    let e = ListN.get_or-map listed_view lists k s in
    rw same (subst (λ (x : IndexedList). LinesHaveSlots n (listed_view x).lines) (sym is) (rw e at here))

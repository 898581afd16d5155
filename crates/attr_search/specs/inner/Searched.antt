-- How much of a search was done (own). Nothing here has to be believed.
use Rattle.std.specs.Prelude.{◌≡◌, ℕ, ◌+◌, ◌-◌, ◌^◌, ◌≤◌, ◌⊎◌, min, List, ◌∷◌, [], map, length, OnOk, Result}
use Rattle.bstr.specs.BStr.{bstr_bytes}
use Rattle.attr_table.specs.Setting.{Item, Setting}
use Rattle.attr_table.specs.Table.{IsStable, Table}
use Rattle.attr_table.specs.shared.Walk.{Searches, Task}
use Rattle.attr_search.specs.declared.path_query.PathQuery.{PathQuery}
use Rattle.attr_search.specs.ListView.{Listed}
use Rattle.attr_search.specs.Roots.{RootsAtMost}
use Rattle.attr_search.specs.SearchContents.{SearchContents}
use Rattle.attr_search.specs.Settings.{BodiesAreNamed, HeldAreNamed, LinesAreNamed, ListsAreNamed, candidate_lines, candidates_in, setting_of}
use Rattle.attr_search.specs.Slots.{SkipsSlots, table_items}
use Rattle.attr_search.specs.inner.Lines.{all_lines, list_rounds, listed_tasks, query_lines, rounds_of}
use Rattle.attr_search.specs.shared.SlotContents.{open_slots, wanted_numbers}

-- the numbers that are looked for, and the bodies as the table knows them
abbrev pub state_wanted : SearchContents → List ℕ
state_wanted state = wanted_numbers state.wanted

abbrev pub state_bodies : SearchContents → List (List Item)
state_bodies state = map table_items state.bodies

-- the setting of a search over lists by a query
abbrev pub query_setting : SearchContents → List Listed → PathQuery → Setting
query_setting state lists query = setting_of lists state.bodies (bstr_bytes query.path) query.case query.is_dir

-- how many lines of a list and of lists are candidates for a query
abbrev pub list_candidates : Listed → PathQuery → ℕ
list_candidates listed query = candidates_in query.case (bstr_bytes query.path) listed

abbrev pub query_candidates : List Listed → PathQuery → ℕ
query_candidates lists query = candidate_lines lists (bstr_bytes query.path) query.case

-- what a search leaves as it is
pub record KeepsState (before after : SearchContents) : Type 0 where
  pub wanted : after.wanted ≡ before.wanted
  pub needed : after.needed ≡ before.needed
  pub bodies : after.bodies ≡ before.bodies
  pub len : length after.answers ≡ length before.answers
  pub skipped : SkipsSlots before.needed before.answers after.answers

-- answers have the names of their numbers, if the items of lines, of the bodies and the answers before have them
abbrev pub KeepsNamedFor : (List (List ℕ) → Type 0) → SearchContents → SearchContents → Type 0
KeepsNamedFor AreItemsNamed before after =
    (names : List (List ℕ)) → AreItemsNamed names → BodiesAreNamed names before.bodies → HeldAreNamed names before.answers →
    HeldAreNamed names after.answers

abbrev pub ListsKeepNamed : List Listed → SearchContents → SearchContents → Type 0
ListsKeepNamed lists = KeepsNamedFor (λ names. ListsAreNamed names lists)

-- a search went through the tasks of a line, and counted the line if slots changed
pub record LineDone (bodies : List (List Item)) (wanted : List ℕ) (tasks : List Task) (before after : SearchContents) : Type 0 where
  pub searches : Searches bodies wanted tasks (open_slots before) (open_slots after) before.taken after.taken
  pub changed : (open_slots after ≡ open_slots before) ⊎ (min (before.tested + 1) (2 ^ 128 - 1) ≤ after.tested)
  pub counted : before.tested ≤ after.tested

-- it went through lines one by one
pub data Rounds (bodies : List (List Item)) (wanted : List ℕ) : List (List Task) → SearchContents → SearchContents → Type 0 where
  over : {state : SearchContents} → Rounds bodies wanted [] state state
  round : {tasks : List Task} {lines : List (List Task)} {before middle after : SearchContents} →
      LineDone bodies wanted tasks before middle → Rounds bodies wanted lines middle after → Rounds bodies wanted (tasks ∷ lines) before after

-- a part of a search was done: it went through lines, tested no more than so many, and keeps answers named if the lines are
pub record Searched (AreItemsNamed : List (List ℕ) → Type 0) (most : ℕ) (lines : List (List Task)) (before after : SearchContents) : Type 0 where
  pub named : KeepsNamedFor AreItemsNamed before after
  pub tested : after.tested ≤ before.tested + most
  pub rounds : Rounds (state_bodies before) (state_wanted before) lines before after

-- one line, lines at some indexes, a list and some lists were searched
abbrev pub SearchedLine : PathQuery → Listed → ℕ → SearchContents → SearchContents → Type 0
SearchedLine rest listed index = Searched (λ names. LinesAreNamed names listed.lines) 1 (listed_tasks rest listed index ∷ [])

abbrev pub SearchedLines : PathQuery → Listed → List ℕ → SearchContents → SearchContents → Type 0
SearchedLines rest listed indexes =
    Searched (λ names. LinesAreNamed names listed.lines) (length indexes) (map (listed_tasks rest listed) indexes)

abbrev pub SearchedList : PathQuery → Listed → SearchContents → SearchContents → Type 0
SearchedList query listed =
    Searched (λ names. LinesAreNamed names listed.lines) (list_candidates listed query) (list_rounds (query_lines query listed))

abbrev pub SearchedLists : PathQuery → List Listed → SearchContents → SearchContents → Type 0
SearchedLists query lists =
    Searched (λ names. ListsAreNamed names lists) (query_candidates lists query) (rounds_of (all_lines query lists))

-- a part of a search keeps the state, and was done unless memory ran out
pub record SearchesPart {T E : Type 0} (result : Result T E) (Done : SearchContents → SearchContents → Type 0) (before after : SearchContents) :
    Type 0 where
  pub kept : KeepsState before after
  pub done : OnOk result (Done before after)

-- the lines at which the roots are of the answers found are no more than those that were tested
abbrev pub TestsRoots : Setting → SearchContents → SearchContents → Type 0
TestsRoots setting before after =
    (table : Table) → IsStable setting (open_slots before) table →
    RootsAtMost table (open_slots before) (open_slots after) after.tested

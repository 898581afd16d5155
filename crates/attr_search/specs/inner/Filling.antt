-- What contracts of functions name that fill slots by the items of a line (own). Nothing here has to be believed.
use Rattle.std.specs.Prelude.{◌≡◌, ℕ, ◌+◌, ◌*◌, ◌<◌, Some, is_some, false, List, ◌++◌, length, set, sum_by, All}
use Rattle.attr_lists.specs.declared.types.TrackedAssignment.{TrackedAssignment}
use Rattle.attr_table.specs.Table.{Slots}
use Rattle.attr_table.specs.shared.Walk.{Task, Searches, left_in}
use Rattle.attr_search.specs.declared.matching_line.MatchingLine.{MatchingLine}
use Rattle.attr_search.specs.declared.item_index.ItemIndex.{ItemIndex}
use Rattle.attr_search.specs.SearchContents.{SearchContents}
use Rattle.attr_search.specs.Settings.{HaveSlots}
use Rattle.attr_lists.specs.Numbers.{AreNamed}
use Rattle.attr_search.specs.inner.Pending.{IsInside, HasItemsBefore, item_answer, indexed_item, line_origin, stacked_tasks, tasks_before}
use Rattle.attr_search.specs.inner.Searched.{KeepsNamedFor, state_bodies, state_wanted}
use Rattle.attr_search.specs.inner.SlotsView.{BodiesFit}
use Rattle.attr_search.specs.shared.SlotContents.{open_slots}

-- a line fills slots: the indexes at hand and on the stack are among its items, or in bodies, and the line that was kept last is this one
pub record AtLine (line : MatchingLine) (state : SearchContents) (at : ItemIndex) (stack : List ItemIndex) : Type 0 where
  pub bodies : BodiesFit (length state.answers) state.bodies
  pub in_line : HaveSlots (length state.answers) line.items.now
  pub within : HasItemsBefore line.items.now state.bodies at
  pub inside : All (HasItemsBefore line.items.now state.bodies) stack
  pub origin : state.line ≡ Some (line_origin line)

-- some items filled slots: answers have the names of their numbers, if the items and the answers before have them, and no line was tested
pub record FillsBy (items : List TrackedAssignment) (before after : SearchContents) : Type 0 where
  pub named : KeepsNamedFor (λ names. AreNamed names items) before after
  pub tested : after.tested ≡ before.tested

-- the tasks that are left: those before the index at hand, and those of the stack
abbrev pub tasks_left : MatchingLine → SearchContents → ItemIndex → List ItemIndex → List Task
tasks_left line state at stack =
    tasks_before (line_origin line) line.items.now state.bodies at ++ stacked_tasks (line_origin line) line.items.now state.bodies stack

-- some tasks of a line with these items were gone through
pub record Fills (items : List TrackedAssignment) (tasks : List Task) (before after : SearchContents) : Type 0 where
  pub by : FillsBy items before after
  pub searches : Searches (state_bodies before) (state_wanted before) tasks (open_slots before) (open_slots after) before.taken after.taken

-- the item at hand
abbrev pub own_item : MatchingLine → ItemIndex → SearchContents → TrackedAssignment
own_item line at state = indexed_item line.items.now state.bodies at

-- it filled its slot, which was free
pub record FillsItem (line : MatchingLine) (at : ItemIndex) (before after : SearchContents) : Type 0 where
  pub inside : IsInside line.items.now before.bodies at
  pub within : (own_item line at before).id.0 < length before.answers
  pub free : is_some (open_slots before (own_item line at before).id.0) ≡ false
  pub filled : after ≡ record before {
    answers = set before.answers (own_item line at before).id.0
        (Some (item_answer (line_origin line) before.bodies (own_item line at before) at.cause));
    kept = after.kept;
    taken = before.taken + 1;
  }

-- a bound of the steps that are left: a step for each index on the stack, and two for each item
abbrev pub steps_left : SearchContents → ItemIndex → List ItemIndex → ℕ
steps_left state at stack =
    length stack + 2 * (at.index + (sum_by (λ w. w.index) stack + left_in (state_bodies state) (open_slots state)))

-- what is left is gone through
abbrev pub FillsTo : MatchingLine → SearchContents → ItemIndex → List ItemIndex → Slots → ℕ → Type 0
FillsTo line state at stack final later =
    Searches (state_bodies state) (state_wanted state) (tasks_left line state at stack) (open_slots state) final state.taken later

-- what is gone through from the slots after on is gone through from those before on
abbrev pub LeadsTo : MatchingLine → SearchContents → ItemIndex → List ItemIndex → SearchContents → ItemIndex → List ItemIndex → Type 0
LeadsTo line before at stack after at' stack' =
    (final : Slots) (later : ℕ) → FillsTo line after at' stack' final later → FillsTo line before at stack final later

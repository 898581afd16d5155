-- What is still to be processed of a line, and on the stack of a search (own). Nothing here has to be believed.
use Rattle.std.specs.Prelude.{◌≡◌, ◌==◌, ℕ, ◌<◌, ◌≤◌, ◌+◌, ◌||◌, ⊤, Bool, not, true, false, List, [], length, take, drop, All, Option, Some, None, is_some}
use Rattle.std.specs.Prelude.{slice_index_or, MatchOption, if◌then◌else◌}
use Rattle.attr_text.specs.declared.state.State.TheVariants.{Unspecified}
use Rattle.attr_lists.specs.declared.types.TrackedAssignment.{TrackedAssignment}
use Rattle.attr_table.specs.Setting.{Origin}
use Rattle.attr_table.specs.Table.{Slots}
use Rattle.attr_table.specs.shared.Walk.{Task, backwards, tasks_in}
use Rattle.attr_search.specs.declared.item_index.ItemIndex.{ItemIndex}
use Rattle.attr_search.specs.declared.matching_line.MatchingLine.{MatchingLine}
use Rattle.attr_search.specs.Slots.{Matched, table_item, table_items}
use Rattle.attr_search.specs.shared.Slotted.{index_origin}

-- the line that a match refers to
abbrev pub line_origin : MatchingLine → Origin
line_origin line = index_origin line.index.now.value line.line

-- the answer by an item of a line, or of a cause's body: its attribute is a macro if it has a body
abbrev pub item_answer : Origin → List (List TrackedAssignment) → TrackedAssignment → Option ℕ → Matched
item_answer origin bodies item cause =
    record {
      origin = origin;
      assignment = item.inner;
      is_macro = not (length (slice_index_or bodies item.id.0 []) == 0);
      cause = cause;
    }

-- the items of the line, or of its cause's body
abbrev pub items_beside : List TrackedAssignment → List (List TrackedAssignment) → Option ℕ → List TrackedAssignment
items_beside items bodies None = items
items_beside items bodies (Some attribute) = slice_index_or bodies attribute []

abbrev pub no_item : TrackedAssignment
no_item = record { id = record { 0 = 0 }; inner = record { name = []; state = Unspecified } }

-- the item at an index, and that there is one
abbrev pub indexed_item : List TrackedAssignment → List (List TrackedAssignment) → ItemIndex → TrackedAssignment
indexed_item items bodies at = slice_index_or (items_beside items bodies at.cause) at.index no_item

abbrev pub IsInside : List TrackedAssignment → List (List TrackedAssignment) → ItemIndex → Type 0
IsInside items bodies at = at.index < length (items_beside items bodies at.cause)

-- there are these items, and as many before the index
pub record HasItemsBefore (items : List TrackedAssignment) (bodies : List (List TrackedAssignment)) (at : ItemIndex) : Type 0 where
  pub cause : MatchOption at.cause ⊤ (λ number. number < length bodies)
  pub index : at.index ≤ length (items_beside items bodies at.cause)

-- the task of the item at an index, and those of the items before it
abbrev pub task_at : Origin → List TrackedAssignment → List (List TrackedAssignment) → ItemIndex → Task
task_at origin items bodies at =
    record { origin = origin; item = table_item (indexed_item items bodies at); cause = at.cause }

abbrev pub tasks_before : Origin → List TrackedAssignment → List (List TrackedAssignment) → ItemIndex → List Task
tasks_before origin items bodies at = tasks_in origin at.cause (table_items (take at.index (items_beside items bodies at.cause)))

-- those of the items before the indexes on the stack, the top of the stack first
abbrev pub stacked_tasks : Origin → List TrackedAssignment → List (List TrackedAssignment) → List ItemIndex → List Task
stacked_tasks origin items bodies stack = backwards (tasks_before origin items bodies) stack

-- the end of the body of an attribute, if it is expanded and the body has items
abbrev pub end_of_body : List (List TrackedAssignment) → ℕ → Bool → Option ItemIndex
end_of_body bodies number is_expanded =
    let body = slice_index_or bodies number [] in
    if not is_expanded || length body == 0 then None else Some (record { cause = Some number; index = length body })

-- the slots of all these items are filled
abbrev pub AreFilled : Slots → List TrackedAssignment → Type 0
AreFilled slots items = All (λ i. is_some (slots i.id.0) ≡ true) items

-- an item's slot is free, and those of the items between it and the end are filled
pub record IsLastFree (slots : Slots) (items : List TrackedAssignment) (end index : ℕ) : Type 0 where
  pub before : index < end
  pub free : is_some (slots (slice_index_or items index no_item).id.0) ≡ false
  pub others : AreFilled slots (drop (index + 1) (take end items))

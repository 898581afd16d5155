-- The answer of an outcome for each attribute, and how it is seen as a slot of the table in attr_table (own).
use Rattle.std.specs.Prelude.{◌≡◌, ℕ, ◌≤◌, ◌<◌, Bool, true, false, List, map, Option, None, is_some, option_map, slice_index_or}
use Rattle.attr_text.specs.declared.assignment.Assignment.{Assignment}
use Rattle.attr_text.specs.declared.state.State.{State}
use Rattle.attr_text.specs.declared.state.State.TheVariants.{Set, Unset, Value, Unspecified}
use Rattle.attr_lists.specs.declared.types.TrackedAssignment.{TrackedAssignment}
use Rattle.attr_table.specs.Setting.{State as TableState, Set as TableSet, Unset as TableUnset, Value as TableValue, Unspecified as TableUnspecified, Item, Origin, Answer}
use Rattle.attr_table.specs.Table.{Slots}

-- the answer for an attribute: the line that decided it, what it assigns, whether the attribute is a
-- macro, and the macro whose body assigns it, none if the line itself does
pub record Matched : Type 0 where
  pub origin : Origin
  pub assignment : Assignment
  pub is_macro : Bool
  pub cause : Option ℕ

-- a state, as the table knows it
abbrev pub table_state : State → TableState
table_state Set = TableSet
table_state Unset = TableUnset
table_state (Value bytes) = TableValue bytes
table_state Unspecified = TableUnspecified

-- an item, as the table knows it: by its number and its state
abbrev pub table_item : TrackedAssignment → Item
table_item t = record { attribute = t.id.0; state = table_state t.inner.state }

abbrev pub table_items : List TrackedAssignment → List Item
table_items items = map table_item items

-- the answer for a number, as the table knows it
abbrev pub table_answer : ℕ → Matched → Answer
table_answer a m =
    record {
      origin = m.origin;
      assignment = record { attribute = a; state = table_state m.assignment.state };
      is_macro = m.is_macro;
      cause = m.cause;
    }

-- the answers for all numbers, as the table's slots
abbrev pub slots_of : List (Option Matched) → Slots
slots_of answers a = option_map (table_answer a) (slice_index_or answers a None)

-- by these flags the attribute is needed; one without a flag is
abbrev pub is_needed : List Bool → ℕ → Bool
is_needed flags a = slice_index_or flags a true

-- slots that are not needed stay as they are
abbrev pub SkipsSlots : List Bool → List (Option Matched) → List (Option Matched) → Type 0
SkipsSlots needed before after = (a : ℕ) → is_needed needed a ≡ false → slice_index_or after a None ≡ slice_index_or before a None

-- each slot from this number on is free
abbrev pub AreFreeFrom : {X : Type 0} → List (Option X) → ℕ → Type 0
AreFreeFrom slots from = (number : ℕ) → from ≤ number → slice_index_or slots number None ≡ None

-- the number is the first from this one on whose slot is filled
pub record IsNextFilled {X : Type 0} (slots : List (Option X)) (from number : ℕ) : Type 0 where
  pub reached : from ≤ number
  pub filled : is_some (slice_index_or slots number None) ≡ true
  pub free : (other : ℕ) → from ≤ other → other < number → slice_index_or slots other None ≡ None

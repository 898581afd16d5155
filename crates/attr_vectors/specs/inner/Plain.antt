-- Views of what the plain search works on, and the steps of its functions (own).
use Rattle.std.specs.Prelude.{◌≡◌, ℕ, ◌+◌, ◌<◌, ◌≤◌, false, min, length, List, [], ◌∷◌, Option, map, option_map, All}
use Rattle.std.specs.Prelude.{filter, if◌then◌else◌, is_none}
use Rattle.std.specs.Borrow.{Bor}
use Rattle.attr_table.specs.Setting.{State, Set, Unset, Value, Unspecified, Item, Origin, Line, Setting, Answer}
use Rattle.attr_table.specs.Table.{Slots, slots_in}
use Rattle.attr_table.specs.Cut.{is_done}
use Rattle.attr_table.specs.shared.Walk.{Task, backwards, left_in, most_taken, Searches}
use Rattle.attr_vectors.specs.declared.plain.State.{State as PlainState}
use Rattle.attr_vectors.specs.declared.plain.State.TheVariants.{Set as PlainSet, Unset as PlainUnset, Value as PlainValue}
use Rattle.attr_vectors.specs.declared.plain.State.TheVariants.{Unspecified as PlainUnspecified}
use Rattle.attr_vectors.specs.declared.plain.Item.{Item as PlainItem}
use Rattle.attr_vectors.specs.declared.plain.Origin.{Origin as PlainOrigin}
use Rattle.attr_vectors.specs.declared.plain.Answer.{Answer as PlainAnswer}
use Rattle.attr_vectors.specs.declared.plain.Row.{Row}
use Rattle.attr_vectors.specs.declared.plain.Task.{Task as PlainTask}
use Rattle.attr_vectors.specs.declared.plain.SearchState.{SearchState}

-- the items of attributes with no answer
abbrev pub free_items : Slots → List Item → List Item
free_items slots items = filter (λ i. is_none (slots i.attribute)) items

-- views of a state, an item, an origin and an answer
abbrev pub plain_state : PlainState → State
plain_state PlainSet = Set
plain_state PlainUnset = Unset
plain_state (PlainValue bytes) = Value bytes.now
plain_state PlainUnspecified = Unspecified

abbrev pub plain_item : PlainItem → Item
plain_item i = record { attribute = i.attribute; state = plain_state i.state }

abbrev pub plain_origin : PlainOrigin → Origin
plain_origin o =
    record {
      text = o.text.now;
      mode = o.mode;
      wildcard = o.wildcard;
      source = option_map (λ s. s.now) o.source;
      line = o.line;
    }

abbrev pub plain_answer : PlainAnswer → Answer
plain_answer x =
    record { origin = plain_origin x.origin; assignment = plain_item x.assignment; is_macro = x.is_macro; cause = x.cause }

-- the items of a line or a body
abbrev pub plain_items : List PlainItem → List Item
plain_items items = map plain_item items

-- a line, without items if it does not match
abbrev pub plain_line : Row → Line
plain_line row =
    record { origin = plain_origin row.origin; items = if row.is_match then plain_items row.items.now else [] }

-- the lines of a list, the lists, and the bodies by number
abbrev pub plain_lines : List Row → List Line
plain_lines rows = map plain_line rows

abbrev pub plain_lists : List (Bor (List Row)) → List (List Line)
plain_lists lists = map (λ rows. plain_lines rows.now) lists

abbrev pub plain_bodies : List (Bor (List PlainItem)) → List (List Item)
plain_bodies bodies = map (λ body. plain_items body.now) bodies

-- the setting that a search is called with
abbrev pub plain_setting : List (Bor (List Row)) → List (Bor (List PlainItem)) → Setting
plain_setting lists bodies = record { lists = plain_lists lists; bodies = plain_bodies bodies }

-- the answers in the slots
abbrev pub plain_answers : List (Option PlainAnswer) → Slots
plain_answers slots = slots_in (map (λ slot. option_map plain_answer slot) slots)

-- each item's attribute has one of n slots; the same for all lines of a list
abbrev pub PlainHaveSlots : ℕ → List PlainItem → Type 0
PlainHaveSlots n items = All (λ i. i.attribute < n) items

abbrev pub RowsHaveSlots : ℕ → List Row → Type 0
RowsHaveSlots n rows = All (λ row. PlainHaveSlots n row.items.now) rows

-- there is a body for each of n slots, and a slot for each attribute that is named
pub record IsInRange (ls : List (Bor (List Row))) (bs : List (Bor (List PlainItem))) (ws : List ℕ) (n : ℕ) : Type 0 where
  pub bodies : length bs ≡ n
  pub in_bodies : All (λ body. PlainHaveSlots n body.now) bs
  pub in_lists : All (λ rows. RowsHaveSlots n rows.now) ls
  pub in_wanted : All (λ w. w < n) ws

-- a task on the stack, the tasks of a stack, the top first, and that each attribute there has one of n slots
abbrev pub plain_task : PlainTask → Task
plain_task t = record { origin = plain_origin t.origin; item = plain_item t.item; cause = t.cause }

abbrev pub plain_tasks : List PlainTask → List Task
plain_tasks stack = backwards (λ t. plain_task t ∷ []) stack

abbrev pub TasksHaveSlots : ℕ → List PlainTask → Type 0
TasksHaveSlots n stack = All (λ t. t.item.attribute < n) stack

-- the state of a search over n slots is in range
pub record IsSearchState (n : ℕ) (s : SearchState) : Type 0 where
  pub bodies : length s.bodies.now ≡ n
  pub in_bodies : All (λ body. PlainHaveSlots n body.now) s.bodies.now
  pub in_wanted : All (λ w. w < n) s.wanted.now
  pub in_stack : TasksHaveSlots n s.stack.items

-- the bodies and the wanted attributes stay
pub record KeepsInput (old new : SearchState) : Type 0 where
  pub bodies : new.bodies ≡ old.bodies
  pub wanted : new.wanted ≡ old.wanted

-- an upper bound of the items that are still to be popped
abbrev pub remaining_work : SearchState → List (Option PlainAnswer) → ℕ
remaining_work s slots = length s.stack.items + left_in (plain_bodies s.bodies.now) (plain_answers slots)

-- a task was processed: what is searched after it was searched after the task
pub record ProcessesTask (t : Task) (old new : SearchState) (before after : List (Option PlainAnswer)) : Type 0 where
  pub state : IsSearchState (length after) new
  pub input : KeepsInput old new
  pub taken : new.taken ≡ old.taken
  pub less : remaining_work new after ≤ remaining_work old before
  pub step : (final : Slots) (taken taken' : ℕ) →
      is_done old.wanted.now (plain_answers before) ≡ false → old.taken ≡ min (taken + 1) most_taken →
      Searches (plain_bodies old.bodies.now) old.wanted.now (plain_tasks new.stack.items)
      (plain_answers after) final new.taken taken' →
      Searches (plain_bodies old.bodies.now) old.wanted.now (t ∷ plain_tasks old.stack.items)
      (plain_answers before) final taken taken'

-- tasks were searched, and the stack is empty
pub record SearchesTasks (ts : List Task) (old new : SearchState) (before after : List (Option PlainAnswer)) : Type 0 where
  pub state : IsSearchState (length after) new
  pub input : KeepsInput old new
  pub empty : new.stack.items ≡ []
  pub searched : Searches (plain_bodies old.bodies.now) old.wanted.now ts (plain_answers before) (plain_answers after) old.taken
      new.taken

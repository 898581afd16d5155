-- A walk that fills slots (own): the steps of a search. The laws relate its slots to the cut of the stable table.
use Rattle.std.specs.Prelude.{◌≡◌, ℕ, suc, ◌+◌, ◌-◌, ◌^◌, ◌≤◌, min, List, [], ◌∷◌, ◌++◌, Bool, true, false, Option, Some, None}
use Rattle.std.specs.Prelude.{is_some, length, ◌==◌, if◌then◌else◌}
use Rattle.attr_table.specs.Setting.{State, Set, Unset, Value, Unspecified, Item, Origin, Line, body_of}
use Rattle.attr_table.specs.Table.{Slots}
use Rattle.attr_table.specs.Cut.{answer_of, is_done}
use Rattle.attr_table.specs.Work.{newly_filled}

-- an item to process, with the line that it was reached from, and the macro whose body has it
pub record Task : Type 0 where
  pub origin : Origin
  pub item : Item
  pub cause : Option ℕ

-- f of each element of a list, the last element first
abbrev pub backwards : {X Y : Type 0} → (X → List Y) → List X → List Y
backwards f [] = []
backwards f (x ∷ xs) = backwards f xs ++ f x

-- the tasks of some items, the last first
abbrev pub tasks_in : Origin → Option ℕ → List Item → List Task
tasks_in origin cause items =
    backwards (λ i. record { origin = origin; item = i; cause = cause } ∷ []) items

-- the tasks of a line, of a list of lines, and of all lists
abbrev pub line_tasks : Line → List Task
line_tasks line = tasks_in line.origin None line.items

abbrev pub list_tasks : List Line → List Task
list_tasks lines = backwards line_tasks lines

abbrev pub tasks_of : List (List Line) → List Task
tasks_of lists = backwards list_tasks lists

-- only an attribute that is set is expanded
abbrev pub expands : State → Bool
expands Set = true
expands Unset = false
expands (Value bytes) = false
expands Unspecified = false

-- the tasks of the body of a task's attribute, if the task sets it
abbrev pub opened : List (List Item) → Task → List Task
opened bodies t =
    if expands t.item.state
    then tasks_in t.origin (Some t.item.attribute) (body_of bodies t.item.attribute)
    else []

-- the slots after a task has filled that of its attribute
abbrev pub fill : List (List Item) → Task → Slots → Slots
fill bodies t slots a =
    if a == t.item.attribute then Some (answer_of bodies t.origin t.item t.cause) else slots a

-- a walk over tasks leads from some slots to others
pub data Walks (bodies : List (List Item)) (done : Slots → Bool) : List Task → Slots → Slots → Type 0 where
  ends : {slots : Slots} → Walks bodies done [] slots slots
  stops : {ts : List Task} {slots : Slots} → done slots ≡ true → Walks bodies done ts slots slots
  skips : {t : Task} {ts : List Task} {slots final : Slots} →
      is_some (slots t.item.attribute) ≡ true → Walks bodies done ts slots final →
      Walks bodies done (t ∷ ts) slots final
  fills : {t : Task} {ts : List Task} {slots final : Slots} →
      done slots ≡ false → is_some (slots t.item.attribute) ≡ false →
      Walks bodies done (opened bodies t ++ ts) (fill bodies t slots) final →
      Walks bodies done (t ∷ ts) slots final

-- the count of items in the bodies of attributes with no answer
abbrev pub left_in : List (List Item) → Slots → ℕ
left_in [] slots = 0
left_in (body ∷ bodies) slots =
    (if is_some (slots 0) then 0 else length body) + left_in bodies (λ a. slots (suc a))

-- the greatest count: a `u128`
abbrev pub most_taken : ℕ
most_taken = 2 ^ 128 - 1

-- a part of a search processes some tasks, and counts those that it pops
pub record Searches (bodies : List (List Item)) (wanted : List ℕ) (ts : List Task) (before after : Slots) (taken taken' : ℕ) :
    Type 0 where
  pub walks : Walks bodies (is_done wanted) ts before after
  pub most : taken' + left_in bodies after ≤ taken + length ts + left_in bodies before
  pub least : (n : ℕ) → min (taken + newly_filled before after n) most_taken ≤ taken'

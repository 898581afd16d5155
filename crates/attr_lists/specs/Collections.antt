-- The content of a collection of attribute names: names by number, and the lists that are registered (own; what a macro is: the
-- gitattributes page).
use Rattle.std.specs.Prelude.{ℕ, List, []}
use Rattle.attr_lists.specs.declared.types.TrackedAssignment.{TrackedAssignment}

-- a definition of a macro: the id of its list, and the items that the macro expands to
pub record MacroDefinition : Type 0 where
  pub list_id : ℕ
  pub body : List TrackedAssignment

-- a macro that a line defines: the number of its name, and its body
pub record NumberedBody : Type 0 where
  pub number : ℕ
  pub body : List TrackedAssignment

-- a list that is registered: its id, and the macros that its lines define, line by line
pub record RegisteredList : Type 0 where
  pub list_id : ℕ
  pub macros : List NumberedBody

-- the names by number, and the lists that are registered, in the order of their addition
pub record Collection : Type 0 where
  pub names : List (List ℕ)
  pub lists : List RegisteredList

-- no name and no list
abbrev pub empty_collection : Collection
empty_collection = record { names = []; lists = [] }

-- The input of a search: the lines of the files, and the bodies of the macros. The gitattributes page: "an attribute that, when
-- set, also sets or unsets a number of other attributes". Attributes are numbers here.
use Rattle.std.specs.Prelude.{ℕ, List, [], Bool, Option, slice_index_or}

-- the state that an item assigns: `name`, `-name`, `name=value` or `!name`
pub data State : Type 0 where
  Set : State
  Unset : State
  Value : List ℕ → State
  Unspecified : State

-- an item of a line or a body: an attribute, and the state that it gets
pub record Item : Type 0 where
  pub attribute : ℕ
  pub state : State

-- the origin of a line: the text, mode and first wildcard of its pattern, its file, and its number from 1
pub record Origin : Type 0 where
  pub text : List ℕ
  pub mode : ℕ
  pub wildcard : Option ℕ
  pub source : Option (List ℕ)
  pub line : ℕ

-- a line, with its items if its pattern matches the path and it defines no macro, else with none
pub record Line : Type 0 where
  pub origin : Origin
  pub items : List Item

-- the lists of lines, the last of which takes precedence, and the body of each attribute
pub record Setting : Type 0 where
  pub lists : List (List Line)
  pub bodies : List (List Item)

-- the answer for an attribute: the line that decides it, the item, whether the attribute is a macro, and the macro whose body has
-- the item, if one has
pub record Answer : Type 0 where
  pub origin : Origin
  pub assignment : Item
  pub is_macro : Bool
  pub cause : Option ℕ

-- the body of an attribute, which is empty if it is no macro
abbrev pub body_of : List (List Item) → ℕ → List Item
body_of bodies attribute = slice_index_or bodies attribute []

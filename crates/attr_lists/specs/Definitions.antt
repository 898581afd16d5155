-- Definitions of macros (own). A list id is the number under which a list is registered in a collection. A definition belongs to a
-- list, and is removed with it.
use Rattle.std.specs.Prelude.{◌≡◌, ◌≢◌, ℕ, ◌-◌, ◌<◌, ◌≤◌, Bool, true, false, not, ◌==◌, ◌&&◌, Option, List, [], ◌∷◌, ◌++◌, length, map, filter}
use Rattle.std.specs.Prelude.{slice_get, is_some, unwrap_or, option_map, All, IsTrue, bytes_eq}
use Rattle.std.specs.List.{flat_map, list_any, AllPairs, IsDistinct}
use Rattle.attr_text.specs.Names.{is_valid_name}
use Rattle.attr_lists.specs.ListViews.{Entry}
use Rattle.attr_lists.specs.Collections.{MacroDefinition, NumberedBody, RegisteredList, Collection}
use Rattle.attr_lists.specs.Numbers.{names_in, with_names, number_of, numbered_lines, AreNamed}
use Rattle.attr_lists.specs.declared.types.TrackedAssignment.{TrackedAssignment}

-- the line defines the macro of this name
abbrev pub defines_name : List ℕ → Entry → Bool
defines_name name entry = is_some entry.macro && bytes_eq name entry.pattern.text

-- the bodies that the lines define for the macro of this name, line by line
abbrev pub bodies_named : List ℕ → List Entry → List (List TrackedAssignment)
bodies_named name entries = map (λ entry. entry.items) (filter (defines_name name) entries)

-- a body under a list id
abbrev pub definition_of : ℕ → List TrackedAssignment → MacroDefinition
definition_of list_id body = record { list_id = list_id; body = body }

-- the definition belongs to the list with this list id
abbrev pub is_of_list : ℕ → MacroDefinition → Bool
is_of_list list_id definition = definition.list_id == list_id

-- the bodies of the definitions of a list
abbrev pub bodies_of_list : ℕ → List MacroDefinition → List (List TrackedAssignment)
bodies_of_list list_id definitions = map (λ d. d.body) (filter (is_of_list list_id) definitions)

-- the definitions of all lists but this one
abbrev pub of_other_lists : ℕ → List MacroDefinition → List MacroDefinition
of_other_lists list_id definitions = filter (λ d. not (is_of_list list_id d)) definitions

-- the bodies of this number, line by line
abbrev pub bodies_of_number : ℕ → List NumberedBody → List (List TrackedAssignment)
bodies_of_number number list = map (λ b. b.body) (filter (λ b. b.number == number) list)

-- the definitions that a registered list has of a number
abbrev pub definitions_by : ℕ → RegisteredList → List MacroDefinition
definitions_by number list = map (definition_of list.list_id) (bodies_of_number number list.macros)

-- the definitions of a number, the latest last
abbrev pub definitions_of : Collection → ℕ → List MacroDefinition
definitions_of collection number = flat_map (definitions_by number) collection.lists

-- the definitions of a name, the latest last, none if the collection lacks the name
abbrev pub definitions_for : Collection → List ℕ → List MacroDefinition
definitions_for collection name = unwrap_or (option_map (definitions_of collection) (number_of collection.names name)) []

-- the body of the last of these definitions, if there is one
abbrev pub last_defined : List MacroDefinition → Option (List TrackedAssignment)
last_defined definitions = option_map (λ d. d.body) (slice_get definitions (length definitions - 1))

-- the same, empty if there is none
abbrev pub last_body : List MacroDefinition → List TrackedAssignment
last_body definitions = unwrap_or (last_defined definitions) []

-- the items that the name with this number expands to, none if it is no macro
abbrev pub macro_body : Collection → ℕ → List TrackedAssignment
macro_body collection number = last_body (definitions_of collection number)

-- a list is registered in the collection under the list id
abbrev pub is_registered : Collection → ℕ → Bool
is_registered collection list_id = list_any (λ l. l.list_id == list_id) collection.lists

-- the macro that the line defines, if it defines one
abbrev pub macro_defined : Entry → List NumberedBody
macro_defined entry = unwrap_or (option_map (λ id. record { number = id.0; body = entry.items } ∷ []) entry.macro) []

-- the macros that lines define, line by line
abbrev pub macros_defined : List Entry → List NumberedBody
macros_defined lines = flat_map macro_defined lines

-- a list is registered: its new names get the next numbers, and it comes after the others
abbrev pub with_list : ℕ → List Entry → Collection → Collection
with_list list_id entries old =
    let names = with_names old.names (names_in entries) in
    let macros = macros_defined (numbered_lines names entries) in
    record { names = names; lists = old.lists ++ record { list_id = list_id; macros = macros } ∷ [] }

-- a list of these lines is registered under a list id that no list of the collection had
pub record RegistersAs (list_id : ℕ) (entries : List Entry) (old new : Collection) : Type 0 where
  pub fresh : is_registered old list_id ≡ false
  pub added : new ≡ with_list list_id entries old

-- a list is removed; the names stay
abbrev pub without_list : ℕ → Collection → Collection
without_list list_id old = record old { lists = filter (λ l. not (l.list_id == list_id)) old.lists }

-- the list is registered under the list id: for each name, the definitions that the collection has of the list are those of
-- its lines
pub record HoldsList (collection : Collection) (list_id : ℕ) (entries : List Entry) : Type 0 where
  pub registered : is_registered collection list_id ≡ true
  pub bodies : (name : List ℕ) → bodies_of_list list_id (definitions_for collection name) ≡ bodies_named name entries

-- all numbers in the body are numbers of names
abbrev pub IsWithin : ℕ → MacroDefinition → Type 0
IsWithin count definition = All (λ item. item.id.0 < count) definition.body

-- what holds of each collection: names are valid and differ, so the numbers in use are those below their count; list ids differ;
-- each definition is of a name, and its items have the numbers of their names
pub record IsSoundCollection (collection : Collection) : Type 0 where
  pub valid : All (λ name. IsTrue (is_valid_name name)) collection.names
  pub distinct : IsDistinct bytes_eq collection.names
  pub ids : AllPairs (λ x y. x.list_id ≢ y.list_id) collection.lists
  pub numbers : (number : ℕ) → length collection.names ≤ number → definitions_of collection number ≡ []
  pub within : (number : ℕ) → All (IsWithin (length collection.names)) (definitions_of collection number)
  pub named : (number : ℕ) → All (λ d. AreNamed collection.names d.body) (definitions_of collection number)

-- Views of names and of their entries (own).
use Rattle.std.specs.Prelude.{◌≡◌, ℕ, ◌<◌, List, [], length, map, slice_index_or, All, IsTrue}
use Rattle.std.specs.List.Sorted.{IsNonDecreasingBy}
use Rattle.attr_text.specs.Names.{is_valid_name}
use Rattle.attr_lists.specs.declared.name_table.entry.Definition.{Definition}
use Rattle.attr_lists.specs.declared.name_table.entry.NameEntry.{NameEntry}
use Rattle.attr_lists.specs.Collections.{MacroDefinition}

-- each is a valid name
abbrev pub AreValid : List (List ℕ) → Type 0
AreValid names = All (λ name. IsTrue (is_valid_name name)) names

abbrev pub definition_view : Definition → MacroDefinition
definition_view d = record { list_id = d.list_id; body = d.metadata.value.macro_attributes.items }

-- the definitions of a name
abbrev pub definitions_view : NameEntry → List MacroDefinition
definitions_view entry = map definition_view entry.definitions.items

-- the definitions by number
abbrev pub all_definitions : List NameEntry → List (List MacroDefinition)
all_definitions entries = map definitions_view entries

-- the definitions of the name with this number
abbrev pub definitions_at : List NameEntry → ℕ → List MacroDefinition
definitions_at entries number = slice_index_or (all_definitions entries) number []

-- the list ids of the definitions don't fall
abbrev pub AreInListOrder : List MacroDefinition → Type 0
AreInListOrder definitions = IsNonDecreasingBy (λ d. d.list_id) definitions

-- the same for each name
abbrev pub AreAllInOrder : List NameEntry → Type 0
AreAllInOrder entries = (number : ℕ) → AreInListOrder (definitions_at entries number)

-- each part of the entry has this number, and the name has no body without a definition
pub record IsEntry (number : ℕ) (entry : NameEntry) : Type 0 where
  pub id : entry.undefined.id.0 ≡ number
  pub empty : entry.undefined.macro_attributes.items ≡ []
  pub ids : All (λ d. d.metadata.value.id.0 ≡ number) entry.definitions.items

-- each entry has its own index as its number
abbrev pub AreEntries : List NameEntry → Type 0
AreEntries entries = (number : ℕ) (d : NameEntry) → number < length entries → IsEntry number (slice_index_or entries number d)

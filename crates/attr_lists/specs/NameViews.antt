-- The view of an iterator over names (own).
use Rattle.std.specs.Prelude.{ℕ, ◌-◌, List, [], length, map, slice_index_or}
use Rattle.std.specs.List.{range_with_len}
use Rattle.std.specs.Borrow.{Bor}
use Rattle.attr_lists.specs.declared.name_table.Names.{Names}
use Rattle.attr_lists.specs.declared.types.Metadata.{Metadata}
use Rattle.attr_lists.specs.declared.types.TrackedAssignment.{TrackedAssignment}
use Rattle.attr_lists.specs.Definitions.{macro_body}
use Rattle.attr_lists.specs.Collections.{Collection}

-- a name, its number, and the items that it expands to as a macro
pub record NamedBody : Type 0 where
  pub name : List ℕ
  pub number : ℕ
  pub body : List TrackedAssignment

-- the name with this number
abbrev pub named_body : Collection → ℕ → NamedBody
named_body collection number =
    record { name = slice_index_or collection.names number []; number = number; body = macro_body collection number }

-- the names from a number on
abbrev pub names_from : Collection → ℕ → List NamedBody
names_from collection number = map (named_body collection) (range_with_len number (length collection.names - number))

-- the view of a name with its metadata
abbrev pub named_view : Bor (List ℕ) × Bor Metadata → NamedBody
named_view n = record { name = n.0.now; number = n.1.now.id.0; body = n.1.now.macro_attributes.items }

-- the names that the iterator has yet to yield
abbrev pub names_left : Names → List NamedBody
names_left names = names_from names.table.now names.number

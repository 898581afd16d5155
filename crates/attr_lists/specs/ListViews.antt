-- Views of the crate's values (own).
use Rattle.std.specs.Prelude.{◌≡◌, ℕ, Option, Some, None, List, map}
use Rattle.attr_glob.specs.declared.search.pattern.Mapping.{Mapping}
use Rattle.attr_glob.specs.Patterns.{Reading}
use Rattle.attr_glob.specs.Views.{pattern_view}
use Rattle.attr_lists.specs.declared.types.AttributeId.{AttributeId}
use Rattle.attr_lists.specs.declared.types.TrackedAssignment.{TrackedAssignment}
use Rattle.attr_lists.specs.declared.types.Value.{Value}
use Rattle.attr_lists.specs.declared.types.Value.TheVariants.{MacroAssignments, Assignments}
use Rattle.attr_lists.specs.declared.types.MatchKind.{MatchKind}
use Rattle.attr_lists.specs.declared.types.MatchKind.TheVariants.{Attribute, Macro}

-- the values have the same ids and items
abbrev pub SameValue : Value → Value → Type 0
SameValue (MacroAssignments i v) (MacroAssignments j w) = (j ≡ i) × (w.items ≡ v.items)
SameValue (Assignments v) (Assignments w) = w.items ≡ v.items
SameValue _ _ = ⊥

-- the macro whose body has a matched attribute
abbrev pub source_id_of : MatchKind → Option AttributeId
source_id_of (Attribute id) = id
source_id_of (Macro id) = id

-- the number of the macro that a line defines, if it defines one
abbrev pub macro_id : Value → Option AttributeId
macro_id (MacroAssignments id v) = Some id
macro_id (Assignments v) = None

-- the items of a line
abbrev pub items_in : Value → List TrackedAssignment
items_in (MacroAssignments id v) = v.items
items_in (Assignments v) = v.items

-- the content of a line in a list: its pattern, the number of the macro that it defines, its items, and its own number, from 1
pub record Entry : Type 0 where
  pub pattern : Reading
  pub macro : Option AttributeId
  pub items : List TrackedAssignment
  pub line : ℕ

abbrev pub entry_view : Mapping Value → Entry
entry_view m =
    record { pattern = pattern_view m.pattern; macro = macro_id m.value; items = items_in m.value; line = m.sequence_number }

abbrev pub entries_view : List (Mapping Value) → List Entry
entries_view mappings = map entry_view mappings

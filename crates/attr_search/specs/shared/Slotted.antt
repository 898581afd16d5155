-- Which attributes have slots, and views of lines and of bodies (own).
use Rattle.std.specs.Prelude.{ℕ, List, [], map, All, Option, None, Some, option_map, slice_index_or, string_bytes}
use Rattle.std.specs.Global.{Global}
use Rattle.std.specs.declared.rc.Rc.{Rc}
use Rattle.attr_glob.specs.declared.search.pattern.Mapping.{Mapping}
use Rattle.attr_glob.specs.Views.{pattern_view}
use Rattle.attr_lists.specs.ListViews.{Entry}
use Rattle.attr_lists.specs.declared.types.Metadata.{Metadata}
use Rattle.attr_lists.specs.declared.types.TrackedAssignment.{TrackedAssignment}
use Rattle.attr_lists.specs.declared.types.Value.{Value as LineValue}
use Rattle.attr_table.specs.Setting.{Origin}
use Rattle.attr_search.specs.ListView.{Listed}
use Rattle.attr_glob.specs.declared.search.pattern.index.Index.{Index}
use Rattle.attr_glob.specs.declared.search.pattern.indexed_line.IndexedLine.{IndexedLine}
use Rattle.attr_search.specs.Settings.{HaveSlots}

-- the items of all bodies, and of all lines of lists, have slots
abbrev pub BodiesHaveSlots : ℕ → List (List TrackedAssignment) → Type 0
BodiesHaveSlots n bodies = All (HaveSlots n) bodies

abbrev pub LinesHaveSlots : ℕ → List Entry → Type 0
LinesHaveSlots n lines = All (λ entry. HaveSlots n entry.items) lines

abbrev pub ListsHaveSlots : ℕ → List Listed → Type 0
ListsHaveSlots n lists = All (λ listed. LinesHaveSlots n listed.lines) lists

-- where a line is
abbrev pub origin_of : Option (List ℕ) → Mapping LineValue → Origin
origin_of source m =
    record {
      text = (pattern_view m.pattern).text;
      mode = (pattern_view m.pattern).mode;
      wildcard = (pattern_view m.pattern).wildcard;
      source = source;
      line = m.sequence_number;
    }

-- where a line of an index is
abbrev pub indexed_origin : Option (List ℕ) → IndexedLine → Origin
indexed_origin source l =
    record {
      text = (pattern_view l.pattern).text;
      mode = (pattern_view l.pattern).mode;
      wildcard = (pattern_view l.pattern).wildcard;
      source = source;
      line = l.number;
    }

-- where the line past the last one is
abbrev pub no_origin : Origin
no_origin = record { text = []; mode = 0; wildcard = None; source = None; line = 0 }

abbrev pub index_origin : Index → ℕ → Origin
index_origin index line =
    slice_index_or (map (indexed_origin (option_map string_bytes index.source)) index.lines.items) line no_origin

-- what an attribute is as a macro, if it is one, shared by a count
abbrev pub SharedBody : Type 0
SharedBody = Option (Rc Metadata Global)

-- its items
abbrev pub defined_items : SharedBody → List TrackedAssignment
defined_items None = []
defined_items (Some known) = known.value.macro_attributes.items

-- the bodies by number
abbrev pub bodies_view : List SharedBody → List (List TrackedAssignment)
bodies_view bodies = map defined_items bodies

-- Steps that read a line (own).
use Rattle.std.specs.Prelude.{ℕ, List, [], ◌∷◌, map, Option, None, option_map, MatchOption, Result, Some}
use Rattle.std.specs.Result.{result_map_both}
use Rattle.attr_glob.specs.Patterns.{Reading}
use Rattle.attr_glob.specs.declared.search.pattern.Mapping.{Mapping}
use Rattle.attr_text.specs.Items.{Refusal}
use Rattle.attr_lists.specs.LineResults.{LineResult, Given, Target, pattern, macro}
use Rattle.attr_lists.specs.LineViews.{target_view}
use Rattle.attr_text.specs.declared.assignment.Assignment.{Assignment}
use Rattle.attr_lists.specs.declared.parse.Kind.{Kind}
use Rattle.attr_lists.specs.declared.types.AttributeId.{AttributeId}
use Rattle.attr_lists.specs.declared.types.Dropped.{Dropped}
use Rattle.attr_lists.specs.declared.types.TrackedAssignment.{TrackedAssignment}
use Rattle.attr_lists.specs.declared.types.Value.{Value}
use Rattle.attr_lists.specs.ListViews.{Entry, entry_view}
use Rattle.attr_lists.specs.KeptLists.{line_read, macro_pattern, tracked, unnumbered}
use Rattle.attr_lists.specs.Numbers.{id_of, names_of, numbered, numbered_item}
use Rattle.attr_lists.specs.shared.Reading.{ReadsNumbered}

-- a parsed line
abbrev pub given_by : Kind → List (Result Assignment Refusal) → ℕ → Given
given_by kind items line = record { target = target_view kind; items = items; line = line }

-- the names of items
abbrev pub item_name : TrackedAssignment → List (List ℕ)
item_name item = item.inner.name ∷ []

abbrev pub item_names : List TrackedAssignment → List (List ℕ)
item_names items = map (λ item. item.inner.name) items

-- items with the numbers of their names
abbrev pub numbered_items : List (List ℕ) → List TrackedAssignment → List TrackedAssignment
numbered_items names items = map (numbered_item names) items

-- the name of the macro that a line with this target defines
abbrev pub target_names : Target → List (List ℕ)
target_names (pattern read) = []
target_names (macro name) = name ∷ []

-- the number of that name
abbrev pub target_id : List (List ℕ) → Target → Option AttributeId
target_id names (pattern read) = None
target_id names (macro name) = Some (id_of names name)

-- the pattern of a line with this target
abbrev pub target_pattern : Target → Reading
target_pattern (pattern read) = read
target_pattern (macro name) = macro_pattern name

-- a line is read with the numbers of its names, or it is known why it is dropped, if memory did not run out
abbrev pub IsLineReadWith : List (List ℕ) → List (List ℕ) → Option LineResult → Result Entry Dropped → Type 0
IsLineReadWith old new line read = MatchOption line ⊥ (λ x. ReadsNumbered names_of numbered (line_read x) old new read)

-- the view of a line, or why it is dropped
abbrev pub kept_line_view : Result (Mapping Value) Dropped → Result Entry Dropped
kept_line_view line = result_map_both entry_view (λ dropped. dropped) line

-- a line as it is before it is numbered
abbrev pub forgotten : Entry → Entry
forgotten entry =
    record {
      pattern = entry.pattern;
      macro = option_map (λ id. unnumbered) entry.macro;
      items = map (λ item. tracked item.inner) entry.items;
      line = entry.line;
    }

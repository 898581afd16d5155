-- The entries that a list keeps of an attributes file: one bad item drops the whole line, as in gix-attributes and
-- `parse_attr_line` of git's attr.c. The gitattributes page: "Custom macro attributes can be defined only in top-level
-- gitattributes files".
use Rattle.std.specs.Prelude.{◌≡◌, ℕ, Bool, true, ◌||◌, List, [], ◌∷◌, map, filter, Some, None, is_none, Result, Ok, Err}
use Rattle.std.specs.Prelude.{if◌then◌else◌}
use Rattle.std.specs.List.{filter_map, list_all}
use Rattle.std.specs.Result.{result_ok, result_err, result_map_both}
use Rattle.attr_glob.specs.declared.search.pattern.Mapping.{Mapping}
use Rattle.attr_glob.specs.Patterns.{Reading, all_flags}
use Rattle.attr_text.specs.Names.{is_valid_name}
use Rattle.attr_text.specs.Items.{Refusal, invalid_name, reserved}
use Rattle.attr_lists.specs.LineResults.{Target, pattern, macro, LineResult, macro_name, negative_pattern, results_of}
use Rattle.attr_text.specs.declared.assignment.Assignment.{Assignment}
use Rattle.attr_lists.specs.declared.types.AttributeId.{AttributeId}
use Rattle.attr_lists.specs.declared.types.TrackedAssignment.{TrackedAssignment}
use Rattle.attr_lists.specs.declared.types.Value.{Value}
use Rattle.attr_lists.specs.declared.types.Dropped.{Dropped}
use Rattle.attr_lists.specs.declared.types.DropReason.{DropReason}
use Rattle.attr_lists.specs.declared.types.DropReason.TheVariants.{MacroName, NegativePattern, InvalidName, Reserved}
use Rattle.attr_lists.specs.ListViews.{Entry, entries_view}
use Rattle.attr_lists.specs.Numbers.{no_number}

-- the id of a name before the list is numbered (own)
abbrev pub unnumbered : AttributeId
unnumbered = record { 0 = no_number }

-- an assignment before the list is numbered
abbrev pub tracked : Assignment → TrackedAssignment
tracked assignment = record { id = unnumbered; inner = assignment }

-- why a list drops a line with this item
abbrev pub reason_of : Refusal → DropReason
reason_of (invalid_name name) = InvalidName
reason_of (reserved name) = Reserved

-- the assignments if nothing was refused, else the reason of the first refusal
abbrev pub unless_refused : List Refusal → List TrackedAssignment → Result (List TrackedAssignment) DropReason
unless_refused [] assignments = Ok assignments
unless_refused (refusal ∷ others) assignments = Err (reason_of refusal)

-- the assignments of a line's items, or why the line is dropped
abbrev pub items_read : List (Result Assignment Refusal) → Result (List TrackedAssignment) DropReason
items_read items = unless_refused (filter_map result_err items) (map tracked (filter_map result_ok items))

-- the pattern of a line that defines the macro of this name (own: it has all flags)
abbrev pub macro_pattern : List ℕ → Reading
macro_pattern name = record { text = name; mode = all_flags; wildcard = None }

-- the entry of a line with this target, number and assignments
abbrev pub entry_for : Target → ℕ → List TrackedAssignment → Entry
entry_for (pattern read) line items = record { pattern = read; macro = None; items = items; line = line }
entry_for (macro name) line items = record { pattern = macro_pattern name; macro = Some unnumbered; items = items; line = line }

-- the entry of a line, or why the line is dropped
abbrev pub line_read : LineResult → Result Entry Dropped
line_read (Ok given) =
    result_map_both (entry_for given.target given.line) (λ reason. record { line = given.line; reason = reason })
    (items_read given.items)
line_read (Err (macro_name line name)) = Err (record { line = line; reason = MacroName })
line_read (Err (negative_pattern line text)) = Err (record { line = line; reason = NegativePattern })

-- the entries of lines, in order
abbrev pub kept_lines : List LineResult → List Entry
kept_lines lines = filter_map (λ line. result_ok (line_read line)) lines

-- the lines that are dropped, in order
abbrev pub lines_left_out : List LineResult → List Dropped
lines_left_out lines = filter_map (λ line. result_err (line_read line)) lines

-- the entries that a list keeps of a buffer
abbrev pub kept_list : List ℕ → List Entry
kept_list bytes = kept_lines (results_of bytes)

-- the lines of a buffer that a list drops
abbrev pub dropped_lines : List ℕ → List Dropped
dropped_lines bytes = lines_left_out (results_of bytes)

-- a line that defines no macro
abbrev pub defines_no_macro : Entry → Bool
defines_no_macro entry = is_none entry.macro

-- the same, without the lines that define a macro unless macros are allowed (own)
abbrev pub kept_list_where : Bool → List ℕ → List Entry
kept_list_where allow_macros bytes = if allow_macros then kept_list bytes else filter defines_no_macro (kept_list bytes)

-- a line that defines no macro, or one of a valid name
abbrev pub macro_valid : Entry → Bool
macro_valid entry = defines_no_macro entry || is_valid_name entry.pattern.text

-- each macro that the lines define has a valid name
abbrev pub macros_valid : List Entry → Bool
macros_valid entries = list_all macro_valid entries

-- the mappings and the lines dropped are those of the buffer, so the macros have valid names
pub record IsReadAs (bytes : List ℕ) (mappings : List (Mapping Value)) (dropped : List Dropped) : Type 0 where
  pub kept : entries_view mappings ≡ kept_list bytes
  pub left_out : dropped ≡ dropped_lines bytes
  pub valid : macros_valid (entries_view mappings) ≡ true

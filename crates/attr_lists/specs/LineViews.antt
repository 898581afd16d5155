-- Views of items and lines (own).
use Rattle.std.specs.Prelude.{◌≡◌, ℕ, List, [], ◌∷◌, Option, Some, None, MatchOption, Result, Ok, Err}
use Rattle.std.specs.Result.{result_map_both}
use Rattle.bstr.specs.BStr.{bstr_bytes}
use Rattle.attr_glob.specs.Views.{pattern_view}
use Rattle.attr_text.specs.declared.assignment.Assignment.{Assignment}
use Rattle.attr_text.specs.declared.assignment.AssignmentRef.{AssignmentRef}
use Rattle.attr_text.specs.Items.{Refusal, invalid_name, reserved}
use Rattle.attr_text.specs.TextViews.{assignment_view}
use Rattle.attr_lists.specs.declared.parse.AttrError.{AttrError}
use Rattle.attr_lists.specs.declared.parse.AttrError.TheVariants.{InvalidName, Reserved}
use Rattle.attr_lists.specs.declared.parse.Kind.{Kind}
use Rattle.attr_lists.specs.declared.parse.Kind.TheVariants as kinds
use Rattle.attr_lists.specs.declared.parse.Error.{Error}
use Rattle.attr_lists.specs.declared.parse.Error.TheVariants as errors
use Rattle.attr_lists.specs.LineResults.{Target, pattern, macro, LineResult, macro_name, negative_pattern, Unread}

-- why a word is no assignment
abbrev pub refusal_view : AttrError → Refusal
refusal_view (InvalidName name) = invalid_name (bstr_bytes name)
refusal_view (Reserved name) = reserved (bstr_bytes name)

-- an assignment, or why there is none
abbrev pub item_view : Result AssignmentRef AttrError → Result Assignment Refusal
item_view item = result_map_both assignment_view refusal_view item

-- the target of a line
abbrev pub target_view : Kind → Target
target_view (kinds.Pattern p) = pattern (pattern_view p)
target_view (kinds.Macro name) = macro name

-- the kind of a line, its items and its number, or why it was refused
abbrev pub ParsedLine : Type 0
ParsedLine = Result (Kind × List (Result Assignment Refusal) × ℕ) Error

-- the result of a line, none if memory ran out
abbrev pub line_view : ParsedLine → Option LineResult
line_view (Ok x) = Some (Ok (record { target = target_view x.0; items = x.1; line = x.2 }))
line_view (Err (errors.MacroName line input)) = Some (Err (macro_name line input.items))
line_view (Err (errors.NegativePattern line input)) = Some (Err (negative_pattern line input.items))
line_view (Err errors.OutOfMemory) = None

-- no line is left
abbrev pub IsOver : Unread → Type 0
IsOver unread = (unread.results ≡ []) × (unread.lines ≡ 0)

-- one call of `next`: the first result that was left, or the end, which also comes after memory ran out
abbrev pub Yields : Unread → Option ParsedLine → Unread → Type 0
Yields old None new = (old.results ≡ []) × IsOver new
Yields old (Some line) new = MatchOption (line_view line) (IsOver new) (λ x. old.results ≡ x ∷ new.results)

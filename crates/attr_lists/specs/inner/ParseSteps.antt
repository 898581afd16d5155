-- Steps that read a line (own).
use Rattle.std.specs.Prelude.{◌≡◌, ◌≤◌, ℕ, Bool, length, List, [], ◌∷◌, ◌++◌, Option, Some, None, MatchOption, option_map, Result, Ok, Err}
use Rattle.std.specs.Bool.{⊤}
use Rattle.std.specs.List.{position_or_len}
use Rattle.std.specs.Option.{option_to_list}
use Rattle.attr_lists.specs.declared.parse.Kind.{Kind}
use Rattle.attr_lists.specs.declared.parse.Error.{Error}
use Rattle.attr_lists.specs.declared.parse.Error.TheVariants as errors
use Rattle.attr_lists.specs.LineResults.{Target, RefusedLine, LineResult, macro_name, negative_pattern}
use Rattle.attr_lists.specs.LineViews.{target_view, ParsedLine, line_view}

-- the offset of the first byte that passes the test, or the length if none does
pub record IsFirst (test : ℕ → Bool) (bytes : List ℕ) (at : ℕ) : Type 0 where
  pub offset : at ≡ position_or_len test bytes
  pub inside : at ≤ length bytes

-- the kind is that of the expected target, unless memory ran out
abbrev pub ReportsKind : Result (Option Kind) Error → Option (Result Target RefusedLine) → Type 0
ReportsKind (Ok found) expected = expected ≡ option_map (λ kind. Ok (target_view kind)) found
ReportsKind (Err (errors.MacroName line input)) expected = expected ≡ Some (Err (macro_name line input.items))
ReportsKind (Err (errors.NegativePattern line input)) expected = expected ≡ Some (Err (negative_pattern line input.items))
ReportsKind (Err errors.OutOfMemory) expected = ⊤

-- the line is the expected one, unless memory ran out
abbrev pub Reports : Option ParsedLine → Option LineResult → Type 0
Reports None expected = expected ≡ None
Reports (Some line) expected = MatchOption (line_view line) ⊤ (λ x. expected ≡ Some x)

-- a line was read, and the results of the others are left
abbrev pub ReadsLine : List LineResult → Option ParsedLine → List LineResult → Type 0
ReadsLine old line new = (x : Option LineResult) × Reports line x × (old ≡ option_to_list x ++ new)

-- the first result was returned, or there was none left, unless memory ran out
abbrev pub ReadsFirst : List LineResult → Option ParsedLine → List LineResult → Type 0
ReadsFirst old None new = (old ≡ []) × (new ≡ [])
ReadsFirst old (Some line) new = MatchOption (line_view line) ⊤ (λ x. old ≡ x ∷ new)

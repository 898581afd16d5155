-- The text that `--lines` prints for an attributes file (own).
use Rattle.std.specs.Prelude.{ℕ, List, ◌++◌, Option, IfSome, Result, Ok, Err, codes}
use Rattle.std.specs.List.{flat_map}
use Rattle.std.specs.Fmt.{decimal}
use Rattle.std.specs.Io.KnownBytes.{Appends}
use Rattle.gix_attributes.specs.Items.{Refusal, invalid_name, reserved, printed}
use Rattle.gix_attributes.specs.LineResults.{LineResult, macro_name, negative_pattern, results_of}
use Rattle.gix_attributes.specs.declared.Assignment.{Assignment}
use Rattle.check_attr.specs.Failures.{AppendsFront}

-- an item: a space and the assignment, or a space, `?` and the refused name
abbrev pub item_text : Result Assignment Refusal → List ℕ
item_text (Ok assignment) = codes " " ++ printed assignment
item_text (Err (invalid_name name)) = codes " ?" ++ name
item_text (Err (reserved name)) = codes " ?" ++ name

-- a line: its number and its items, or its number and why it is refused
abbrev pub line_text : LineResult → List ℕ
line_text (Ok given) = decimal given.line ++ codes ":" ++ flat_map item_text given.items ++ codes "\n"
line_text (Err (macro_name line name)) = decimal line ++ codes "! macro-name\n"
line_text (Err (negative_pattern line text)) = decimal line ++ codes "! negative\n"

-- the text for a whole file
abbrev pub lines_text : List ℕ → List ℕ
lines_text input = flat_map line_text (results_of input)

-- the text for the input was appended, or a beginning of it
abbrev pub WritesLines : Option (List ℕ) → Option (List ℕ) → Option (List ℕ) → Type 0
WritesLines input old new = IfSome input (λ bytes. Appends old new (lines_text bytes))

abbrev pub WritesLinesFront : Option (List ℕ) → Option (List ℕ) → Option (List ℕ) → Type 0
WritesLinesFront input old new = IfSome input (λ bytes. AppendsFront old new (lines_text bytes))

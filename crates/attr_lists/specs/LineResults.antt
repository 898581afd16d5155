-- The results of the lines of an attributes file. The gitattributes page: "Lines that begin with `#` are ignored. Patterns that
-- begin with a double quote are quoted in C style"; "negative patterns are forbidden"; "`[attr]binary -diff -merge -text`".
use Rattle.std.specs.Prelude.{ℕ, ◌+◌, Bool, ◌&&◌, ◌||◌, ◌==◌, nat_eq, nat_lt, List, [], ◌∷◌, ◌++◌, length, drop, slice_index, map}
use Rattle.std.specs.Prelude.{Option, Some, None, option_map, Result, Ok, Err, if◌then◌else◌, codes}
use Rattle.std.specs.List.{starts_with}
use Rattle.std.specs.Option.{option_to_list}
use Rattle.bstr.specs.Text.{lines_of, without_terminator}
use Rattle.attr_wildmatch.specs.Bytes.{number_sign}
use Rattle.attr_glob.specs.Patterns.{Reading, reading, is_negated}
use Rattle.attr_glob.specs.Quotes.{Fault, undone}
use Rattle.attr_text.specs.Items.{after_blanks, before_blank, from_blank, Refusal, checked_name, items_of}
use Rattle.attr_text.specs.declared.assignment.Assignment.{Assignment}

-- the target of a line's items: the paths of a pattern, or a macro
pub data Target : Type 0 where
  pattern : Reading → Target
  macro : List ℕ → Target

-- a line with items, and its number from 1
pub record Given : Type 0 where
  pub target : Target
  pub items : List (Result Assignment Refusal)
  pub line : ℕ

-- a line that is refused, with its number and the text of its macro's name or of its negative pattern
pub data RefusedLine : Type 0 where
  macro_name : ℕ → List ℕ → RefusedLine
  negative_pattern : ℕ → List ℕ → RefusedLine

abbrev pub LineResult : Type 0
LineResult = Result Given RefusedLine

-- the byte order marks of UTF-8, UTF-32 and UTF-16 (own: git removes that of UTF-8 alone), a longer mark before its prefix
abbrev pub byte_order_marks : List (List ℕ)
byte_order_marks =
    (0xEF ∷ 0xBB ∷ 0xBF ∷ [])
    ∷ (0 ∷ 0 ∷ 0xFE ∷ 0xFF ∷ [])
    ∷ (0xFF ∷ 0xFE ∷ 0 ∷ 0 ∷ [])
    ∷ (0xFF ∷ 0xFE ∷ [])
    ∷ (0xFE ∷ 0xFF ∷ [])
    ∷ []

-- without the first of these prefixes with which the bytes begin
abbrev pub without_front : List (List ℕ) → List ℕ → List ℕ
without_front [] bytes = bytes
without_front (front ∷ fronts) bytes =
    if starts_with nat_eq bytes front then drop (length front) bytes else without_front fronts bytes

-- the lines after the byte order mark, without their ends
abbrev pub lines_in : List ℕ → List (List ℕ)
lines_in bytes = map without_terminator (lines_of (without_front byte_order_marks bytes))

-- the prefix of a line that defines a macro
abbrev pub macro_prefix : List ℕ
macro_prefix = codes "[attr]"

-- a pattern text that begins with this front and has more bytes defines a macro, whose name is the rest
abbrev pub is_macro_definition : List ℕ → Bool
is_macro_definition pattern_text =
    starts_with nat_eq pattern_text macro_prefix && nat_lt (length macro_prefix) (length pattern_text)

abbrev pub macro_of : Result (List ℕ) Refusal → List ℕ → ℕ → Result Target RefusedLine
macro_of (Ok checked) name line = Ok (macro checked)
macro_of (Err refusal) name line = Err (macro_name line name)

abbrev pub pattern_of : List ℕ → ℕ → Reading → Result Target RefusedLine
pattern_of pattern_text line read =
    if is_negated pattern_text then Err (negative_pattern line pattern_text) else Ok (pattern read)

-- the target of a line with this pattern text, none if the text is no pattern
abbrev pub target_of : List ℕ → ℕ → Option (Result Target RefusedLine)
target_of pattern_text line =
    let name = drop (length macro_prefix) pattern_text in
    if is_macro_definition pattern_text then Some (macro_of (checked_name name) name line)
    else option_map (pattern_of pattern_text line) (reading pattern_text)

-- A line's pattern text and the text of its items. A pattern text in quotes is unquoted, and all text after it is that of the
-- items. Any other one, damaged quotes included, ends at the first blank.
abbrev pub parts_by : Result (List ℕ × ℕ) Fault → List ℕ → List ℕ × List ℕ
parts_by (Ok plain) text = (plain.0, drop plain.1 text)
parts_by (Err fault) text = (before_blank text, from_blank text)

abbrev pub parts_of : List ℕ → List ℕ × List ℕ
parts_of text = parts_by (undone text) text

abbrev pub with_items : List ℕ → ℕ → Result Target RefusedLine → LineResult
with_items text line (Ok target) = Ok (record { target = target; items = items_of text; line = line })
with_items text line (Err refused) = Err refused

-- the result of a line with this text, which is not empty and no comment
abbrev pub result_of_text : List ℕ → ℕ → Option LineResult
result_of_text text line = option_map (with_items (parts_of text).1 line) (target_of (parts_of text).0 line)

-- the result of a line: blanks in front are skipped, and there is none of an empty line and of a comment
abbrev pub result_of : List ℕ → ℕ → Option LineResult
result_of line number =
    let text = after_blanks line in
    if length text == 0 || slice_index text 0 == number_sign then None else result_of_text text number

-- the results of lines, the first of which has this number
abbrev pub results_from : ℕ → List (List ℕ) → List LineResult
results_from number [] = []
results_from number (line ∷ lines) = option_to_list (result_of line number) ++ results_from (number + 1) lines

-- the results of a buffer, line by line
abbrev pub results_of : List ℕ → List LineResult
results_of bytes = results_from 1 (lines_in bytes)

-- the lines that are left: their results, and their count
pub record Unread : Type 0 where
  pub results : List LineResult
  pub lines : ℕ

-- the lines that are left, the first of which has this number
abbrev pub unread_from : ℕ → List (List ℕ) → Unread
unread_from number lines = record { results = results_from number lines; lines = length lines }

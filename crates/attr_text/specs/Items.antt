-- The assignments in a text, as the gitattributes page spells them: the items of a line, with blanks between them.
use Rattle.std.specs.Prelude.{ℕ, ◌+◌, Bool, true, false, not, ◌||◌, ◌==◌, List, [], ◌∷◌, ◌++◌, map, take, drop, slice_index}
use Rattle.std.specs.Prelude.{Option, Some, None, Result, Ok, Err, if◌then◌else◌, position, filter, encode_utf8_all}
use Rattle.std.specs.List.{before_first, slice_split, position_or_len}
use Rattle.bstr.specs.Utf8.{lossy_chars}
use Rattle.attr_wildmatch.specs.Bytes.{exclamation_mark, hyphen}
use Rattle.attr_text.specs.Names.{is_valid_name, is_reserved_name}
use Rattle.attr_text.specs.declared.state.State.{State}
use Rattle.attr_text.specs.declared.state.State.TheVariants.{Set, Unset, Value, Unspecified}
use Rattle.attr_text.specs.declared.assignment.Assignment.{Assignment}

-- `=`
abbrev pub equals : ℕ
equals = 61

-- a space
abbrev pub blank_space : ℕ
blank_space = 32

-- a horizontal tab
abbrev pub tab : ℕ
tab = 9

abbrev pub carriage_return : ℕ
carriage_return = 13

-- a space, a tab or a carriage return
abbrev pub is_blank : ℕ → Bool
is_blank b = b == blank_space || b == tab || b == carriage_return

-- the text after the blanks in front
abbrev pub after_blanks : List ℕ → List ℕ
after_blanks text = drop (position_or_len (λ b. not (is_blank b)) text) text

-- the text before the first blank
abbrev pub before_blank : List ℕ → List ℕ
before_blank text = take (position_or_len is_blank text) text

-- the first blank and the text after it
abbrev pub from_blank : List ℕ → List ℕ
from_blank text = drop (position_or_len is_blank text) text

abbrev pub is_some_text : List ℕ → Bool
is_some_text [] = false
is_some_text (b ∷ bs) = true

-- the longest runs of bytes that are not blanks
abbrev pub words : List ℕ → List (List ℕ)
words text = filter is_some_text (slice_split is_blank text)

-- why a word is no assignment, with the name in it
pub data Refusal : Type 0 where
  invalid_name : List ℕ → Refusal
  reserved : List ℕ → Refusal

-- a name that is valid and not reserved
abbrev pub checked_name : List ℕ → Result (List ℕ) Refusal
checked_name name =
    if not (is_valid_name name) then Err (invalid_name name) else if is_reserved_name name then Err (reserved name) else Ok name

abbrev pub with_state : Result (List ℕ) Refusal → State → Result Assignment Refusal
with_state (Ok name) state = Ok (record { name = name; state = state })
with_state (Err refusal) state = Err refusal

abbrev pub is_equals : ℕ → Bool
is_equals b = b == equals

-- the value after the first `=`, and set if there is none
abbrev pub state_from : List ℕ → Option ℕ → State
state_from word None = Set
state_from word (Some i) = Value (drop (i + 1) word)

-- The assignment of a word. A `-` or a `!` in front of the name is the state, and a value is not read then.
abbrev pub item_of : List ℕ → Result Assignment Refusal
item_of word =
    let name = before_first is_equals word in
    let first = slice_index name 0 in
    if first == hyphen then with_state (checked_name (drop 1 name)) Unset
    else if first == exclamation_mark then with_state (checked_name (drop 1 name)) Unspecified
    else with_state (checked_name name) (state_from word (position is_equals word))

-- the assignments of the words of a text
abbrev pub items_of : List ℕ → List (Result Assignment Refusal)
items_of text = map item_of (words text)

-- the state as an attributes file spells it with the name, with U+FFFD for each part of a value that is not UTF-8
abbrev pub printed_state : List ℕ → State → List ℕ
printed_state name Set = name
printed_state name Unset = hyphen ∷ name
printed_state name (Value bytes) = name ++ equals ∷ encode_utf8_all (lossy_chars bytes)
printed_state name Unspecified = exclamation_mark ∷ name

-- the assignment as an attributes file spells it
abbrev pub printed : Assignment → List ℕ
printed a = printed_state a.name a.state

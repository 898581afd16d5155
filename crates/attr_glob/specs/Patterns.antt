-- How a pattern text is read. The gitignore page: "An optional prefix `!` which negates the pattern"; "Put a backslash .. in
-- front of the first hash"; "a separator at the beginning or middle (or both)"; "a separator at the end". The order of the steps
-- is own.
use Rattle.std.specs.Prelude.{ℕ, ◌+◌, ◌-◌, Bool, not, ◌&&◌, ◌||◌, ◌==◌, List, [], ◌∷◌, ◌++◌, length, take, drop, slice_index, Option, Some, None, if◌then◌else◌, position}
use Rattle.std.specs.List.{list_all, list_any}
use Rattle.std.specs.Char.{is_ascii_whitespace}
use Rattle.std.specs.Int.RustNames.{bit_and}
use Rattle.attr_wildmatch.specs.Slashes.{is_slash, ends_in_slash}
use Rattle.attr_wildmatch.specs.Bytes.{backslash, slash, asterisk, question_mark, open_bracket, exclamation_mark, number_sign}

-- what is read of a pattern text: the text that is left, the sum of the mode's flags, and the offset of the first wildcard
pub record Reading : Type 0 where
  pub text : List ℕ
  pub mode : ℕ
  pub wildcard : Option ℕ

-- The flags of a mode.

-- no slash is left in the text
abbrev pub no_sub_dir : ℕ
no_sub_dir = 1

-- the text is a star and bytes without a wildcard
abbrev pub ends_with : ℕ
ends_with = 2

-- there was a slash at the end
abbrev pub must_be_dir : ℕ
must_be_dir = 4

-- there was an exclamation mark in front
abbrev pub negative : ℕ
negative = 8

-- there was a slash in front
abbrev pub absolute : ℕ
absolute = 16

-- all five, as in the pattern of a line that defines a macro
abbrev pub all_flags : ℕ
all_flags = no_sub_dir + ends_with + must_be_dir + negative + absolute

-- a space, a tab, a line feed, a form feed or a carriage return
abbrev pub is_space : ℕ → Bool
is_space byte = is_ascii_whitespace byte

-- `*`, `?`, `[` or a backslash
abbrev pub is_wildcard : ℕ → Bool
is_wildcard byte = byte == asterisk || byte == question_mark || byte == open_bracket || byte == backslash

-- the byte in front, and 0 of an empty text
abbrev pub first : List ℕ → ℕ
first text = slice_index text 0

-- there is a `!` in front
abbrev pub is_negated : List ℕ → Bool
is_negated text = first text == exclamation_mark

-- there is `\!` or `\#` in front
abbrev pub is_escaped : List ℕ → Bool
is_escaped text = first text == backslash && (slice_index text 1 == exclamation_mark || slice_index text 1 == number_sign)

-- without the `!` in front, or without the backslash of `\!` or `\#`
abbrev pub without_negation : List ℕ → List ℕ
without_negation text = if is_negated text || is_escaped text then drop 1 text else text

-- without the `/` in front
abbrev pub without_root : List ℕ → List ℕ
without_root text = if is_slash (first text) then drop 1 text else text

-- without the `/` at the end
abbrev pub without_end : List ℕ → List ℕ
without_end text = if ends_in_slash text then take (length text - 1) text else text

-- a `*`, and no wildcard after it
abbrev pub is_suffix : List ℕ → Bool
is_suffix text = first text == asterisk && not (list_any is_wildcard (drop 1 text))

-- a flag if it is set, and else 0
abbrev pub set_where : Bool → ℕ → ℕ
set_where is_set flag = if is_set then flag else 0

-- what is read after the negation
abbrev pub read_rest : Bool → List ℕ → Reading
read_rest negated rest =
    let below = without_root rest in
    let text = without_end below in
    record {
      text = text;
      mode = set_where (not (list_any is_slash text)) no_sub_dir
          + set_where (is_suffix text) ends_with
          + set_where (ends_in_slash below) must_be_dir
          + set_where negated negative
          + set_where (is_slash (first rest)) absolute;
      wildcard = position is_wildcard text;
    }

-- what is read of a pattern text, and none of one that has nothing but whitespace after its negation
abbrev pub reading : List ℕ → Option Reading
reading text =
    if list_all is_space (without_negation text) then None
    else Some (read_rest (is_negated text) (without_negation text))

-- a flag is set in a mode
abbrev pub has_flag : ℕ → ℕ → Bool
has_flag mode flag = bit_and mode flag == flag

-- a byte if its flag is set
abbrev pub mark_where : Bool → ℕ → List ℕ
mark_where is_set byte = if is_set then byte ∷ [] else []

-- a pattern as a pattern text: its text, with the bytes around it that its mode came from
abbrev pub written : Reading → List ℕ
written r =
    mark_where (has_flag r.mode negative) exclamation_mark ++ mark_where (has_flag r.mode absolute) slash
    ++ r.text ++ mark_where (has_flag r.mode must_be_dir) slash

-- How a script is read, part after part (own).
use Rattle.std.specs.Prelude.{◌≡◌, ◌≢◌, ◌++◌, decimal, ℕ, zero, suc, ◌+◌, ◌-◌, ◌*◌, Bool, true, false, not, ◌&&◌, ◌||◌, ◌==◌, nat_eq, nat_lt, nat_le}
use Rattle.std.specs.Prelude.{List, [], ◌∷◌, length, take, drop, fold, position, slice_index, Option, Some, None, option_map, option_and_then, codes}
use Rattle.std.specs.Prelude.{if◌then◌else◌}
use Rattle.std.specs.Char.{is_ascii_digit}
use Rattle.std.specs.List.{list_all, starts_with}
use Rattle.std.specs.Str.{is_utf8}
use Rattle.gix_attributes.specs.declared.glob.pattern.Case.{Case}
use Rattle.gix_attributes.specs.declared.glob.pattern.Case.TheVariants.{Sensitive, Fold}
use Rattle.gix_attributes.specs.LinesJoined.{line_feed}
use Rattle.check_attr.specs.Script.{Record, add, pop, names, ask, space, IsHeaderNumber, BeginsWithRecord, IsMalformed}
use Rattle.check_attr.specs.declared.script.Form.{Form}
use Rattle.check_attr.specs.declared.script.Form.TheVariants.{Line, Zero, Origin}

infixr 5 ◌then◌
-- the next part, if the first was read
abbrev pub ◌then◌ : {X Y : Type 0} → Option X → (X → Option Y) → Option Y
first then next = option_and_then next first

-- the bytes after a prefix
abbrev pub strip_prefix : List ℕ → List ℕ → Option (List ℕ)
strip_prefix prefix bytes = if starts_with nat_eq bytes prefix then Some (drop (length prefix) bytes) else None

-- the choice whose word is a prefix, and the bytes after that word
abbrev pub choice_of : {X : Type 0} → List (List ℕ × X) → List ℕ → Option (X × List ℕ)
choice_of [] bytes = None
choice_of (choice ∷ choices) bytes =
    if starts_with nat_eq bytes choice.0 then Some (choice.1, drop (length choice.0) bytes) else choice_of choices bytes

-- the bytes before the first separator, and those after it
abbrev pub split_once : ℕ → List ℕ → Option (List ℕ × List ℕ)
split_once separator bytes =
    option_map (λ offset. (take offset bytes, drop (offset + 1) bytes)) (position (λ b. b == separator) bytes)

-- the first bytes, and those after them
abbrev pub split_at : ℕ → List ℕ → Option (List ℕ × List ℕ)
split_at count bytes = if nat_le count (length bytes) then Some (take count bytes, drop count bytes) else None

-- the part, if its bytes are UTF-8
abbrev pub if_text : List ℕ × List ℕ → Option (List ℕ × List ℕ)
if_text part = if is_utf8 part.0 then Some part else None

abbrev pub digit_zero : ℕ
digit_zero = 48

-- the digits that a number may have
abbrev pub most_digits : ℕ
most_digits = 8

-- decimal digits, and no zero before others
abbrev pub is_number : List ℕ → Bool
is_number word =
    nat_lt 0 (length word) && nat_le (length word) most_digits && list_all is_ascii_digit word
    && (length word == 1 || not (slice_index word 0 == digit_zero))

abbrev pub digits_value : List ℕ → ℕ
digits_value digits = fold (λ value digit. 10 * value + (digit - digit_zero)) 0 digits

-- a number, and the bytes after the separator that ends it
abbrev pub number_before : ℕ → List ℕ → Option (ℕ × List ℕ)
number_before separator bytes =
    split_once separator bytes then λ word. if is_number word.0 then Some (digits_value word.0, word.1) else None

-- the length of the root, or `-` for no root
abbrev pub root_length : List ℕ → Option (Option ℕ × List ℕ)
root_length bytes =
    if starts_with nat_eq bytes (codes "- ") then Some (None, drop 2 bytes)
    else option_map (λ number. (Some number.0, number.1)) (number_before space bytes)

-- the root of this length, if there is one
abbrev pub root_of : Option ℕ → List ℕ → Option (Option (List ℕ) × List ℕ)
root_of None bytes = Some (None, bytes)
root_of (Some count) bytes = option_map (λ part. (Some part.0, part.1)) (split_at count bytes then if_text)

-- the letters of a header and their meaning: macros are allowed, or not
abbrev pub macro_flags : List (List ℕ × Bool)
macro_flags = (codes "m ", true) ∷ (codes "- ", false) ∷ []

-- the form of the answers
abbrev pub forms : List (List ℕ × Form)
forms = (codes "l ", Line) ∷ (codes "z ", Zero) ∷ (codes "o ", Origin) ∷ []

-- letters compare as they are, or without regard to case
abbrev pub cases : List (List ℕ × Case)
cases = (codes "s ", Sensitive) ∷ (codes "i ", Fold) ∷ []

-- the path is a directory, is a file, or may be either
abbrev pub directory_flags : List (List ℕ × Option Bool)
directory_flags = (codes "d ", Some true) ∷ (codes "f ", Some false) ∷ (codes "u ", None) ∷ []

-- this many lines, each of them UTF-8
abbrev pub text_lines : ℕ → List ℕ → Option (List (List ℕ) × List ℕ)
text_lines zero bytes = Some ([], bytes)
text_lines (suc count) bytes =
    (split_once line_feed bytes then if_text) then λ line.
    option_map (λ others. (line.0 ∷ others.0, others.1)) (text_lines count line.1)

-- the parts of an addition, which have these lengths in bytes, and a line feed
abbrev pub addition_of : Bool → ℕ → Option ℕ → ℕ → List ℕ → Option (Record × List ℕ)
addition_of allow_macros source_len root_len buffer_len bytes =
    (split_at source_len bytes then if_text) then λ source.
    root_of root_len source.1 then λ root.
    split_at buffer_len root.1 then λ buffer.
    option_map (λ rest. (add (record { allow_macros = allow_macros; source = source.0; root = root.0; buffer = buffer.0 }), rest))
    (strip_prefix (codes "\n") buffer.1)

-- what follows `add `: the letter of macros and three lengths, and then the parts
abbrev pub add_record : List ℕ → Option (Record × List ℕ)
add_record bytes =
    choice_of macro_flags bytes then λ allow_macros.
    number_before space allow_macros.1 then λ source_len.
    root_length source_len.1 then λ root_len.
    number_before line_feed root_len.1 then λ buffer_len.
    addition_of allow_macros.0 source_len.0 root_len.0 buffer_len.0 buffer_len.1

-- what follows `names `: the number of names, and each as a line
abbrev pub names_record : List ℕ → Option (Record × List ℕ)
names_record bytes =
    number_before line_feed bytes then λ count.
    option_map (λ lines. (names lines.0, lines.1)) (text_lines count.0 count.1)

-- what follows `ask `: the form, the case rule and whether the path is a directory, its length, and then the path and a line feed
abbrev pub ask_record : List ℕ → Option (Record × List ℕ)
ask_record bytes =
    choice_of forms bytes then λ form.
    choice_of cases form.1 then λ case.
    choice_of directory_flags case.1 then λ is_dir.
    number_before line_feed is_dir.1 then λ path_len.
    split_at path_len.0 path_len.1 then λ path.
    option_map (λ rest. (ask (record { form = form.0; case = case.0; is_dir = is_dir.0; path = path.0 }), rest))
    (strip_prefix (codes "\n") path.1)

-- the first record, and the bytes after it; none if the record is malformed
abbrev pub record_of : List ℕ → Option (Record × List ℕ)
record_of bytes =
    if starts_with nat_eq bytes (codes "add ") then add_record (drop 4 bytes)
    else if starts_with nat_eq bytes (codes "pop\n") then Some (pop, drop 4 bytes)
    else if starts_with nat_eq bytes (codes "names ") then names_record (drop 6 bytes)
    else if starts_with nat_eq bytes (codes "ask ") then ask_record (drop 4 bytes)
    else None

-- the record that a script begins with and the rest, or none if there is no such record
abbrev pub IsFirstRecord : List ℕ → Option (Record × List ℕ) → Type 0
IsFirstRecord script None = IsMalformed script
IsFirstRecord script (Some read) = BeginsWithRecord script read.0 read.1

-- the number that is written in front of this separator and the rest, or none if no number is
abbrev pub IsNumberBefore : ℕ → List ℕ → Option (ℕ × List ℕ) → Type 0
IsNumberBefore separator bytes None =
    (n : ℕ) (rest : List ℕ) → IsHeaderNumber n → bytes ≢ decimal n ++ separator ∷ rest
IsNumberBefore separator bytes (Some read) = IsHeaderNumber read.0 × (bytes ≡ decimal read.0 ++ separator ∷ read.1)

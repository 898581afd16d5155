-- Git's C-style quoting (gitattributes page: patterns that begin with a double quote are quoted in C style). The escapes are those
-- of git's quote.c.
use Rattle.std.specs.Prelude.{◌≡◌, ◌≢◌, ℕ, zero, suc, ◌+◌, ◌-◌, ◌*◌, ◌≤◌, nat_le, Bool, ◌&&◌, ◌||◌, ◌==◌, if◌then◌else◌, List, [], ◌∷◌, ◌++◌, length, drop, slice_index, Option, Some, None, option_map, Result, Ok, Err, find}
use Rattle.attr_wildmatch.specs.Bytes.{quote, backslash}

-- the byte that a letter after a backslash spells
abbrev pub letter_byte : ℕ → Option ℕ
letter_byte letter =
    if letter == 97 then Some 7  -- a: bell
    else if letter == 98 then Some 8  -- b: backspace
    else if letter == 116 then Some 9  -- t: tab
    else if letter == 110 then Some 10  -- n: line feed
    else if letter == 118 then Some 11  -- v: vertical tab
    else if letter == 102 then Some 12  -- f: form feed
    else if letter == 114 then Some 13  -- r: carriage return
    else if letter == quote then Some quote
    else if letter == backslash then Some backslash
    else None

-- the byte of three octal digits
abbrev pub octal_byte : ℕ → ℕ → ℕ → ℕ
octal_byte high middle low = high * 64 + middle * 8 + low

-- the code of a digit
abbrev pub digit : ℕ → ℕ
digit value = 48 + value

-- Which bytes spell which byte: each byte itself but the quote and the backslash; a backslash and a letter;
-- a backslash and three octal digits, the first at most 3.
pub data Spells : List ℕ → ℕ → Type 0 where
  itself : {byte : ℕ} → byte ≢ quote → byte ≢ backslash → Spells (byte ∷ []) byte
  by_letter : {letter byte : ℕ} → letter_byte letter ≡ Some byte → Spells (backslash ∷ letter ∷ []) byte
  by_digits : {high middle low : ℕ} → high ≤ 3 → middle ≤ 7 → low ≤ 7 →
      Spells (backslash ∷ digit high ∷ digit middle ∷ digit low ∷ []) (octal_byte high middle low)

-- the bytes are spellings of these plain bytes, one after the other
abbrev pub SpellsAll : List ℕ → List ℕ → Type 0
SpellsAll bytes [] = bytes ≡ []
SpellsAll bytes (byte ∷ plain) =
    (spelling others : List ℕ) × (bytes ≡ spelling ++ others) × Spells spelling byte × SpellsAll others plain

-- the text begins with a quote
abbrev pub BeginsQuoted : List ℕ → Type 0
BeginsQuoted text = slice_index text 0 ≡ quote

-- the text begins with the quoted spelling of the plain bytes, which takes so many bytes with both quotes
pub record IsQuoted (text plain : List ℕ) (taken : ℕ) : Type 0 where
  pub spelling : List ℕ
  pub rest : List ℕ
  pub whole : text ≡ quote ∷ (spelling ++ quote ∷ rest)
  pub spells : SpellsAll spelling plain
  pub length_taken : taken ≡ length spelling + 2

-- after the quote in front there are spellings alone
pub record IsUnclosed (text : List ℕ) : Type 0 where
  pub spelling : List ℕ
  pub plain : List ℕ
  pub whole : text ≡ quote ∷ spelling
  pub spells : SpellsAll spelling plain

-- after the quote in front and spellings, the backslash at this offset begins no spelling
pub record IsBadEscape (text : List ℕ) (offset : ℕ) : Type 0 where
  pub spelling : List ℕ
  pub plain : List ℕ
  pub rest : List ℕ
  pub whole : text ≡ quote ∷ (spelling ++ backslash ∷ rest)
  pub spells : SpellsAll spelling plain
  pub bad : (escape others : List ℕ) (byte : ℕ) → backslash ∷ rest ≡ escape ++ others → Spells escape byte → ⊥
  pub at : offset ≡ length spelling + 1

-- why a text can't be undone; a bad escape has the offset of its backslash
pub data Fault : Type 0 where
  not_quoted : Fault
  unclosed : Fault
  bad_escape : ℕ → Fault

-- the code of a digit up to the most
abbrev pub is_octal : ℕ → ℕ → Bool
is_octal most code = nat_le (digit 0) code && nat_le code (digit most)

-- the byte of the three octal digits in front, the first at most 3
abbrev pub digits_byte : List ℕ → Option ℕ
digits_byte bytes =
    let high = slice_index bytes 0 in
    let middle = slice_index bytes 1 in
    let low = slice_index bytes 2 in
    if is_octal 3 high && is_octal 7 middle && is_octal 7 low
    then Some (octal_byte (high - 48) (middle - 48) (low - 48))
    else None

-- the byte of the escape after a backslash, and how many bytes the escape takes there
abbrev pub escaped : List ℕ → Option (ℕ × ℕ)
escaped tail =
    elim (letter_byte (slice_index tail 0)) [
      | Some byte ↦ Some (byte, 1)
      | None ↦ option_map (λ byte. (byte, 3)) (digits_byte tail)
    ]

-- what begins at a byte: the closing quote; a byte, with how many bytes of its spelling follow the first; or no escape
pub data Piece : Type 0 where
  closing : Piece
  spelled : ℕ → ℕ → Piece
  broken : Piece

abbrev pub escape_piece : Option (ℕ × ℕ) → Piece
escape_piece None = broken
escape_piece (Some escape) = spelled escape.0 escape.1

abbrev pub piece : ℕ → List ℕ → Piece
piece first tail =
    if first == quote then closing else if first == backslash then escape_piece (escaped tail) else spelled first 0

-- these bytes before what is undone
abbrev pub with_front : List ℕ → Result (List ℕ × ℕ) Fault → Result (List ℕ × ℕ) Fault
with_front front (Ok rest) = Ok (front ++ rest.0, rest.1)
with_front front (Err fault) = Err fault

-- what is undone from an offset on, if so many bytes still belong to the spelling before
abbrev pub undone_from : ℕ → ℕ → List ℕ → Result (List ℕ × ℕ) Fault
undone_from offset left [] = Err unclosed
undone_from offset (suc left) (first ∷ tail) = undone_from (offset + 1) left tail
undone_from offset zero (first ∷ tail) =
    elim (piece first tail) [
      | closing ↦ Ok ([], offset + 1)
      | spelled byte left ↦ with_front (byte ∷ []) (undone_from (offset + 1) left tail)
      | broken ↦ Err (bad_escape offset)
    ]

-- the plain bytes of the quoted text in front and how many bytes it takes, or the first fault
abbrev pub undone : List ℕ → Result (List ℕ × ℕ) Fault
undone text = if slice_index text 0 == quote then undone_from 1 0 (drop 1 text) else Err not_quoted

-- the quote or the backslash
abbrev pub is_mark : ℕ → Bool
is_mark byte = byte == quote || byte == backslash

-- the text begins with a quote, and a backslash follows before any other quote
abbrev pub HoldsEscape : List ℕ → Type 0
HoldsEscape text = BeginsQuoted text × (find is_mark (drop 1 text) ≡ Some backslash)

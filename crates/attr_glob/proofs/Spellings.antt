-- What is undone of spellings, and how each text is cut into spellings and what stops them.
use Rattle.std.proofs.Common.{◌≡◌, ℕ, ◌+◌, ◌≤◌, List, [], ◌∷◌, ◌++◌, length, Some, None, Result, append_assoc, add-zero, arith}
use Rattle.std.proofs.lemmas.Bool.Decides.{nat_tests}
use Rattle.std.proofs.lemmas.List.{length-append}
use Rattle.attr_wildmatch.specs.Bytes.{backslash}
use Rattle.attr_glob.specs.Quotes.{octal_byte, digit, Spells, itself, by_letter, by_digits, SpellsAll, escaped, with_front, undone_from, Fault}
use Rattle.attr_glob.proofs.Undoing.{undone_from-piece, with_front-append}

pub escaped-digits : (high middle low : ℕ) (others : List ℕ) → high ≤ 3 → middle ≤ 7 → low ≤ 7 → escaped
    (digit high ∷ digit middle ∷ digit low ∷ others) ≡ Some (octal_byte high middle low, 3)
escaped-digits high middle low others h m l = grind (arith, nat_tests)

-- a spelling after a backslash is an escape
pub Spells-escaped : (spelling others rest : List ℕ) (byte : ℕ) → Spells spelling byte → backslash ∷ rest ≡ spelling ++ others → escaped rest ≡ None →
    ⊥
Spells-escaped _ others rest _ (itself no_quote no_backslash) e none = no_backslash cc
Spells-escaped _ others rest _ (by_letter {letter} {byte} e') e none = grind (arith, nat_tests)
Spells-escaped _ others rest _ (by_digits {high} {middle} {low} h m l) e none = grind (arith, nat_tests, escaped-digits)

abbrev Undone : Type 0
Undone = Result (List ℕ × ℕ) Fault

-- a spelling is undone to its byte
undone_from-spelling : (spelling : List ℕ) (byte : ℕ) → Spells spelling byte → (offset : ℕ) (others : List ℕ) → undone_from offset 0
    (spelling ++ others) ≡ with_front (byte ∷ []) (undone_from (offset + length spelling) 0 others)
undone_from-spelling spelling byte h offset others = grind (arith, nat_tests, undone_from-piece, escaped-digits)

-- spellings are undone to their bytes
pub undone_from-spellings : (plain spelling : List ℕ) → SpellsAll spelling plain → (offset : ℕ) (rest : List ℕ) → undone_from offset 0
    (spelling ++ rest) ≡ with_front plain (undone_from (offset + length spelling) 0 rest)
undone_from-spellings [] spelling none offset rest = grind (arith, nat_tests, add-zero)
undone_from-spellings (byte ∷ plain) spelling (first, others, whole, spells, more) offset rest =
    let fact3 = undone_from-spelling first byte spells offset (others ++ rest) in
    let fact = with_front-append (byte ∷ []) plain (undone_from (offset + length first + length others) 0 rest) in
    let fact2 = undone_from-spellings plain others more (offset + length first) rest in
    grind (arith, nat_tests, append_assoc first others rest, fact3, fact, length-append, fact2)

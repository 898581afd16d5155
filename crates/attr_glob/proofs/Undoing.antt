-- How undoing goes on, piece by piece.
use Rattle.std.proofs.lemmas.Grind.{common_steps}
use Rattle.std.proofs.Common.{◌≡◌, ◌≢◌, ℕ, suc, ◌+◌, ◌<◌, ◌≤◌, List, [], ◌∷◌, ◌++◌, length, drop, get_or, Some, Result, Ok, Err, sym}
use Rattle.std.proofs.Common.{append_assoc, add-zero, drop-cons, length-drop, arith}
use Rattle.std.proofs.lemmas.Bool.Decides.{nat_tests}
use Rattle.std.proofs.lemmas.List.{drop-drop, get_or_past}
use Rattle.attr_wildmatch.specs.Bytes.{quote, backslash}
use Rattle.attr_glob.specs.Quotes.{Piece, closing, spelled, broken, piece, escaped, with_front, undone_from, Fault, bad_escape}

abbrev Undone : Type 0
Undone = Result (List ℕ × ℕ) Fault

-- what the piece that begins at an offset comes to
abbrev pub at_piece : ℕ → List ℕ → Piece → Undone
at_piece offset tail closing = Ok ([], offset + 1)
at_piece offset tail (spelled byte left) = with_front (byte ∷ []) (undone_from (offset + 1) left tail)
at_piece offset tail broken = Err (bad_escape offset)

pub undone_from-piece : (offset first : ℕ) (tail : List ℕ) (p : Piece) → piece first tail ≡ p → undone_from offset 0 (first ∷ tail) ≡ at_piece
    offset tail p
undone_from-piece offset first tail p e = grind (arith, nat_tests)

-- bytes that belong to the spelling before are passed over
pub undone_from-left : (offset left : ℕ) (bytes : List ℕ) → undone_from offset left bytes ≡ undone_from (offset + left) 0 (drop left bytes)
undone_from-left offset (suc left) (b ∷ bytes) = grind (arith, nat_tests, undone_from-left (offset + 1) left bytes)
undone_from-left offset left bytes = grind (arith, nat_tests, add-zero)

pub with_front-append : (front more : List ℕ) (rest : Undone) → with_front (front ++ more) rest ≡ with_front front (with_front more rest)
with_front-append front more rest = grind (arith, nat_tests, append_assoc)

-- an escape lies within the bytes
escaped-length : (tail : List ℕ) (escape : ℕ × ℕ) → escaped tail ≡ Some escape → escape.1 ≤ length tail
escaped-length tail escape e = grind (arith, nat_tests, get_or_past)

-- one more byte is undone
pub undone_from-more : (text plain : List ℕ) (offset byte left : ℕ) → offset < length text → piece (get_or text offset 0) (drop (offset + 1) text) ≡
    spelled byte left → (whole : Undone) → whole ≡ with_front plain (undone_from offset 0 (drop offset text)) →
    whole ≡ with_front (plain ++ byte ∷ [])
    (undone_from (offset + 1 + left) 0 (drop (offset + 1 + left) text))
undone_from-more text plain offset byte left inside e whole so_far =
    grind (arith, nat_tests, so_far, common_steps, drop-cons, undone_from-piece, undone_from-left, drop-drop, inside, with_front-append)

-- a turn at a byte that stands for itself
pub undone_from-plain : (text plain : List ℕ) (offset : ℕ) → offset < length text → get_or text offset 0 ≢ quote → get_or text offset 0 ≢ backslash →
    (whole : Undone) → whole ≡ with_front plain (undone_from offset 0 (drop offset text)) → whole ≡ with_front (plain ++ get_or text offset 0 ∷ [])
    (undone_from (offset + 1) 0 (drop (offset + 1) text))
undone_from-plain text plain offset inside no_quote no_backslash whole so_far = grind (
  arith,
  nat_tests,
  common_steps,
  drop-cons,
  undone_from-piece,
  undone_from-left,
  drop-drop,
  with_front-append,
  add-zero,
)

pub record EscapeTurn (text plain : List ℕ) (offset : ℕ) (escape : ℕ × ℕ) (whole : Undone) : Type 0 where
  pub inside : offset + (1 + escape.1) ≤ length text
  pub so_far : whole ≡ with_front (plain ++ escape.0 ∷ []) (undone_from (offset + (1 + escape.1)) 0 (drop (offset + (1 + escape.1)) text))

-- a turn at an escape
pub undone_from-escape : (text plain : List ℕ) (offset : ℕ) (escape : ℕ × ℕ) → offset < length text → get_or text offset 0 ≡ backslash → Some escape ≡
    escaped (drop (offset + 1) text) → (whole : Undone) → whole ≡ with_front plain (undone_from offset 0 (drop offset text)) → EscapeTurn text plain
    offset escape whole
undone_from-escape text plain offset escape inside at_backslash read whole so_far =
    let fact = undone_from-more text plain offset escape.0 escape.1 inside in
    grind (arith, nat_tests, fact, escaped-length (drop (offset + 1) text) escape (sym read), length-drop (offset + 1) text)

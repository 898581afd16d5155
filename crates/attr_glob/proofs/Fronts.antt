-- What stands before the first quote or backslash after the opening quote.
use Rattle.std.proofs.lemmas.Grind.{common_steps}
use Rattle.std.proofs.Common.{◌≡◌, ◌≢◌, ℕ, suc, ◌+◌, ◌<◌, ◌≤◌, false, List, [], ◌∷◌, length, take, drop, get_or, position}
use Rattle.std.proofs.Common.{Some, None, Ok, Err, refl, sym, ap, ◌∙◌, append-nil, add-zero, drop-cons, arith}
use Rattle.std.specs.List.{Contains, find}
use Rattle.std.proofs.lemmas.Bool.Decides.{nat_tests}
use Rattle.std.proofs.lemmas.List.{drop_all}
use Rattle.std.proofs.lemmas.List.Quantifiers.{position-Some}
use Rattle.std.proofs.lemmas.List.Sums.{fails_before_first}
use Rattle.std.proofs.lemmas.List.Folds.{find_at}
use Rattle.std.proofs.lemmas.Option.{slice_get-get_or}
use Rattle.attr_wildmatch.specs.Bytes.{quote, backslash}
use Rattle.attr_glob.specs.Quotes.{is_mark, piece, spelled, with_front, undone_from, undone, BeginsQuoted, HoldsEscape, unclosed}
use Rattle.attr_glob.proofs.Undoing.{undone_from-piece, with_front-append}

piece-unmarked : (b : ℕ) (bytes : List ℕ) → is_mark b ≡ false → piece b bytes ≡ spelled b 0
piece-unmarked b bytes e = grind (arith, nat_tests)

-- bytes without a quote and a backslash stand for themselves
pub undone_from-front : (offset n : ℕ) (bytes : List ℕ) → n ≤ length bytes → ((k : ℕ) → k < n → is_mark (get_or bytes k 0) ≡ false) →
    undone_from offset
    0 bytes ≡ with_front (take n bytes) (undone_from (offset + n) 0 (drop n bytes))
undone_from-front offset (suc n) (b ∷ bytes) inside unmarked =
    let e : (offset + 1) + n ≡ offset + suc n = omega arith in
    let rest = undone_from-front (offset + 1) n bytes (omega arith) (λ k h. unmarked (suc k) (omega arith)) in
    undone_from-piece offset b bytes (spelled b 0) (piece-unmarked b bytes (unmarked 0 (omega arith)))
    ∙ ap (with_front (b ∷ [])) (rest ∙ ap (λ at. with_front (take n bytes) (undone_from at 0 (drop n bytes))) e)
    ∙ sym (with_front-append (b ∷ []) (take n bytes) (undone_from (offset + suc n) 0 (drop n bytes)))
undone_from-front offset n bytes inside unmarked = grind (arith, nat_tests, add-zero)

undone-quoted : (text : List ℕ) → BeginsQuoted text → undone text ≡ undone_from 1 0 (drop 1 text)
undone-quoted text quoted = rw (quoted, undone) refl

-- with no other quote and no backslash the text is unclosed
pub undone-unmarked : (text : List ℕ) → BeginsQuoted text → position is_mark (drop 1 text) ≡ None → undone text ≡ Err unclosed
undone-unmarked text quoted e =
    let fact2 = drop_all (length (drop 1 text)) (drop 1 text) in
    let fact = undone_from-front 1 (length (drop 1 text)) (drop 1 text) in
    grind (arith, nat_tests, common_steps, fact2, undone-quoted text quoted, fact, fails_before_first is_mark (drop 1 text))

-- the bytes up to the closing quote, where that is the first mark
pub undone-marked : (text : List ℕ) (k : ℕ) → BeginsQuoted text → position is_mark (drop 1 text) ≡ Some k → get_or (drop 1 text) k 0 ≡ quote → undone
    text ≡ Ok (take k (drop 1 text), k + 2)
undone-marked text k quoted e at_quote =
    grind (arith, nat_tests, position-Some is_mark, undone-quoted text quoted, undone_from-front 1 k, drop-cons, append-nil)

-- a first mark that is no quote is a backslash
pub HoldsEscape-marked : (text : List ℕ) (k : ℕ) → BeginsQuoted text → position is_mark (drop 1 text) ≡ Some k → get_or (drop 1 text) k 0 ≢ quote →
    HoldsEscape text
HoldsEscape-marked text k quoted e no_quote = grind (arith, nat_tests, position-Some, find_at, slice_get-get_or)

pub no_escape : (text : List ℕ) (k : ℕ) → position is_mark (drop 1 text) ≡ Some k → get_or (drop 1 text) k 0 ≡ quote → HoldsEscape text → ⊥
no_escape text k e at_quote holds = grind (arith, nat_tests, position-Some, find_at, slice_get-get_or)

Contains-cons : (b : ℕ) (bytes : List ℕ) (x : ℕ) → Contains bytes x → Contains (b ∷ bytes) x
Contains-cons b bytes x (k, inside, here) = (suc k, omega arith, here)

Contains-find : (bytes : List ℕ) (x : ℕ) → find is_mark bytes ≡ Some x → Contains bytes x
Contains-find [] x e = absurd cc
Contains-find (b ∷ bytes) x e = grind (arith, nat_tests, Contains-cons, Contains-find bytes x)

pub HoldsEscape-Contains : (text : List ℕ) → HoldsEscape text → Contains text backslash
HoldsEscape-Contains [] (quoted, e) = absurd cc
HoldsEscape-Contains (b ∷ bytes) (quoted, e) = Contains-cons b bytes backslash (Contains-find bytes backslash e)

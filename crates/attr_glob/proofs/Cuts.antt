-- How each text is cut into spellings and what stops them.
use Rattle.std.proofs.lemmas.Grind.{common_steps}
use Rattle.std.proofs.Common.{◌≡◌, ℕ, zero, suc, ◌-◌, ◌≤◌, ◌⊎◌, inl, inr, List, [], ◌∷◌, ◌++◌, length, slice_index, Option, Some, None, refl, sym, ap}
use Rattle.std.proofs.Common.{◌∙◌, append_assoc, arith}
use Rattle.std.proofs.lemmas.Bool.{cases_eq}
use Rattle.std.proofs.lemmas.Bool.Decides.{nat_tests}
use Rattle.std.proofs.lemmas.List.{length-append}
use Rattle.attr_wildmatch.specs.Bytes.{quote, backslash}
use Rattle.attr_glob.specs.Quotes.{letter_byte, digits_byte, octal_byte, digit, Spells, itself, by_letter, by_digits, SpellsAll, escaped}

record Digits (high middle low byte : ℕ) : Type 0 where
  high_least : 48 ≤ high
  high_most : high ≤ 51
  middle_least : 48 ≤ middle
  middle_most : middle ≤ 55
  low_least : 48 ≤ low
  low_most : low ≤ 55
  value : octal_byte (high - 48) (middle - 48) (low - 48) ≡ byte

digits_byte-three : (high middle low byte : ℕ) (more : List ℕ) → digits_byte (high ∷ middle ∷ low ∷ more) ≡ Some byte → Digits high middle low byte
digits_byte-three high middle low byte more e = grind (arith, nat_tests)

-- the bytes after a backslash begin with the rest of a spelling
pub record EscapeCut (bytes : List ℕ) (byte : ℕ) : Type 0 where
  pub tail : List ℕ
  pub others : List ℕ
  pub whole : bytes ≡ tail ++ others
  pub spells : Spells (backslash ∷ tail) byte

by_three : (high middle low byte : ℕ) (more : List ℕ) → Digits high middle low byte → EscapeCut (high ∷ middle ∷ low ∷ more) byte
by_three high middle low byte more d =
    let h : digit (high - 48) ≡ high = omega (arith, d.high_least) in
    let m : digit (middle - 48) ≡ middle = omega (arith, d.middle_least) in
    let l : digit (low - 48) ≡ low = omega (arith, d.low_least) in
    let s : Spells (backslash ∷ digit (high - 48) ∷ digit (middle - 48) ∷ digit (low - 48) ∷ []) (octal_byte (high - 48) (middle - 48) (low - 48)) =
    by_digits (omega (arith, d.high_most)) (omega (arith, d.middle_most)) (omega (arith, d.low_most)) in
    record { tail = high ∷ middle ∷ low ∷ []; others = more; whole = refl; spells = rw (h, m, l, d.value) at s }

cut_digits : (bytes : List ℕ) (byte : ℕ) → digits_byte bytes ≡ Some byte → EscapeCut bytes byte
cut_digits bytes byte e = grind (arith, common_steps, nat_tests, by_three, digits_byte-three)

cut_letter : (bytes : List ℕ) (byte : ℕ) → letter_byte (slice_index bytes 0) ≡ Some byte → EscapeCut bytes byte
cut_letter [] byte e = absurd cc
cut_letter (letter ∷ others) byte e = record { tail = letter ∷ []; others = others; whole = refl; spells = by_letter e }

first_of : Option (ℕ × ℕ) → ℕ
first_of None = 0
first_of (Some pair) = pair.0

cut_by : (bytes : List ℕ) (escape : ℕ × ℕ) (letter digits : Option ℕ) → letter_byte (slice_index bytes 0) ≡ letter → digits_byte bytes ≡ digits →
    escaped bytes ≡ Some escape → EscapeCut bytes escape.0
unfolding first_of
cut_by bytes escape (Some byte) digits e _ read = grind (arith, nat_tests, first_of, cut_letter)
cut_by bytes escape letter digits e e' read = grind (arith, nat_tests, cut_digits)

-- an escape that is read is the rest of a spelling
pub cut_escape : (bytes : List ℕ) (escape : ℕ × ℕ) → escaped bytes ≡ Some escape → EscapeCut bytes escape.0
cut_escape bytes escape = cut_by bytes escape (letter_byte (slice_index bytes 0)) (digits_byte bytes) refl refl

-- what no spelling begins with: the end, a quote, and a backslash with no escape
pub data Stops : List ℕ → Type 0 where
  at_end : Stops []
  at_quote : (others : List ℕ) → Stops (quote ∷ others)
  at_bad : (others : List ℕ) → escaped others ≡ None → Stops (backslash ∷ others)

-- bytes as spellings and what stops them
pub record Cut (bytes : List ℕ) : Type 0 where
  pub spelling : List ℕ
  pub plain : List ℕ
  pub rest : List ℕ
  pub whole : bytes ≡ spelling ++ rest
  pub spells : SpellsAll spelling plain
  pub stops : Stops rest

cut_further : (bytes first others : List ℕ) (byte : ℕ) → bytes ≡ first ++ others → Spells first byte → Cut others → Cut bytes
cut_further bytes first others byte whole spells cut = record {
  spelling = first ++ cut.spelling;
  plain = byte ∷ cut.plain;
  rest = cut.rest;
  whole = whole ∙ ap (λ l. first ++ l) cut.whole ∙ sym (append_assoc first cut.spelling cut.rest);
  spells = (first, cut.spelling, refl, spells, cut.spells);
  stops = cut.stops;
}

cut_here : (bytes : List ℕ) → Stops bytes → Cut bytes
cut_here bytes stops = record { spelling = []; plain = []; rest = bytes; whole = refl; spells = refl; stops = stops }

cut_backslash : (bytes : List ℕ) (escape : Option (ℕ × ℕ)) → escaped bytes ≡ escape → ((rest : List ℕ) → length rest ≤ length bytes → Cut rest) → Cut
    (backslash ∷ bytes)
cut_backslash bytes None e go_on = cut_here (backslash ∷ bytes) (at_bad bytes e)
cut_backslash bytes (Some escape) e go_on =
    let c = cut_escape bytes escape e in
    let shorter : length c.others ≤ length bytes =
    omega (arith, ap length c.whole, length-append c.tail c.others) in
    cut_further (backslash ∷ bytes) (backslash ∷ c.tail) c.others escape.0 (ap (λ l. backslash ∷ l) c.whole) c.spells (go_on c.others shorter)

cut_first : (b : ℕ) (bytes : List ℕ) → (b ≡ quote) ⊎ (b ≡ quote → ⊥) → (b ≡ backslash) ⊎ (b ≡ backslash → ⊥) →
    ((rest : List ℕ) → length rest ≤ length bytes → Cut rest) → Cut (b ∷ bytes)
cut_first b bytes (inl e) _ go_on = rw e (cut_here (quote ∷ bytes) (at_quote bytes))
cut_first b bytes (inr no_quote) (inl e) go_on = rw e (cut_backslash bytes (escaped bytes) refl go_on)
cut_first b bytes (inr no_quote) (inr no_backslash) go_on =
    cut_further (b ∷ bytes) (b ∷ []) bytes b refl (itself no_quote no_backslash) (go_on bytes (omega arith))

cut_within : (most : ℕ) (bytes : List ℕ) → length bytes ≤ most → Cut bytes
cut_within most [] h = cut_here [] at_end
cut_within zero (b ∷ bytes) h = absurd (omega arith)
cut_within (suc most) (b ∷ bytes) h = grind (arith, nat_tests, cut_first, cases_eq, cut_within most)

pub cut : (bytes : List ℕ) → Cut bytes
cut bytes = cut_within (length bytes) bytes (omega arith)

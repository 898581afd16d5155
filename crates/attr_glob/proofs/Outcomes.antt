-- What is undone of each text, as its relation says it.
use Rattle.std.proofs.Common.{◌≡◌, ℕ, ◌+◌, ◌⊎◌, inl, inr, List, [], ◌∷◌, ◌++◌, length, Option, Some, None, Ok, Err, refl, sym, ap, ◌∙◌, arith}
use Rattle.std.proofs.lemmas.Bool.{cases_eq}
use Rattle.std.proofs.lemmas.Bool.Decides.{nat_tests}
use Rattle.std.proofs.lemmas.List.{append-nil}
use Rattle.attr_wildmatch.specs.Bytes.{quote, backslash}
use Rattle.attr_glob.specs.Quotes.{Spells, SpellsAll, escaped, with_front, undone_from, undone, IsQuoted, IsUnclosed, IsBadEscape, BeginsQuoted}
use Rattle.attr_glob.specs.Quotes.{not_quoted, unclosed, bad_escape}
use Rattle.attr_glob.proofs.Spellings.{undone_from-spellings, Spells-escaped}
use Rattle.attr_glob.proofs.Cuts.{cut_escape, cut, Stops, at_end, at_quote, at_bad}

pub undone-IsQuoted : (text plain : List ℕ) (taken : ℕ) → IsQuoted text plain taken → undone text ≡ Ok (plain, taken)
undone-IsQuoted text plain taken q = grind (arith, nat_tests, undone_from-spellings plain, append-nil)

pub undone-IsUnclosed : (text : List ℕ) → IsUnclosed text → undone text ≡ Err unclosed
undone-IsUnclosed text u =
    ap undone u.whole
    ∙ ap (undone_from 1 0) (sym (append-nil u.spelling))
    ∙ undone_from-spellings u.plain u.spelling u.spells 1 []

-- where no spelling begins, no escape does
none_escaped : (rest : List ℕ) (escape : Option (ℕ × ℕ)) → escaped rest ≡ escape →
    ((spelling others : List ℕ) (byte : ℕ) → backslash ∷ rest ≡ spelling ++ others → Spells spelling byte → ⊥) → escaped rest ≡ None
none_escaped rest None e bad = e
none_escaped rest (Some escape) e bad =
    let c = cut_escape rest escape e in
    absurd (bad (backslash ∷ c.tail) c.others escape.0 (ap (λ l. backslash ∷ l) c.whole) c.spells)

undone_from-bad : (offset : ℕ) (rest : List ℕ) → escaped rest ≡ None → undone_from offset 0 (backslash ∷ rest) ≡ Err (bad_escape offset)
undone_from-bad offset rest none = rw (none, undone_from) refl

pub undone-IsBadEscape : (text : List ℕ) (offset : ℕ) → IsBadEscape text offset → undone text ≡ Err (bad_escape offset)
undone-IsBadEscape text offset b =
    let at : 1 + length b.spelling ≡ offset = omega (arith, b.at) in
    let none = none_escaped b.rest (escaped b.rest) refl b.bad in
    ap undone b.whole
    ∙ undone_from-spellings b.plain b.spelling b.spells 1 (backslash ∷ b.rest)
    ∙ ap (with_front b.plain) (undone_from-bad (1 + length b.spelling) b.rest none)
    ∙ ap (λ n. Err (bad_escape n)) at

pub undone-unquoted : (text : List ℕ) → ¬ BeginsQuoted text → undone text ≡ Err not_quoted
undone-unquoted text unquoted = grind (arith, nat_tests)

-- each text is one of the four
pub data Outcome (text : List ℕ) : Type 0 where
  quoted : (plain : List ℕ) (taken : ℕ) → IsQuoted text plain taken → Outcome text
  ends : IsUnclosed text → Outcome text
  bad : (offset : ℕ) → IsBadEscape text offset → Outcome text
  plain_text : ¬ BeginsQuoted text → Outcome text

outcome_of : (spelling plain rest : List ℕ) → SpellsAll spelling plain → Stops rest → Outcome (quote ∷ (spelling ++ rest))
outcome_of spelling plain _ spells at_end = grind (arith, nat_tests, ends, append-nil)
outcome_of spelling plain _ spells (at_quote others) =
    quoted plain (length spelling + 2) (record { spelling = spelling; rest = others; whole = refl; spells = spells; length_taken = refl })
outcome_of spelling plain _ spells (at_bad others none) =
    bad (length spelling + 1) (record {
      spelling = spelling;
      plain = plain;
      rest = others;
      whole = refl;
      spells = spells;
      bad = λ spelled others' byte e s. Spells-escaped spelled others' others byte s e none;
      at = refl;
    })

outcome_first : (b : ℕ) (bytes : List ℕ) → (b ≡ quote) ⊎ (b ≡ quote → ⊥) → Outcome (b ∷ bytes)
outcome_first b bytes (inl e) =
    let c = cut bytes in
    let whole : b ∷ bytes ≡ quote ∷ (c.spelling ++ c.rest) = ap (λ x. x ∷ bytes) e ∙ ap (λ l. quote ∷ l) c.whole in
    rw (← whole) at (outcome_of c.spelling c.plain c.rest c.spells c.stops)
outcome_first b bytes (inr unquoted) = plain_text unquoted

pub outcome : (text : List ℕ) → Outcome text
outcome [] = plain_text (λ e. omega arith)
outcome (b ∷ bytes) = outcome_first b bytes (cases_eq b quote)

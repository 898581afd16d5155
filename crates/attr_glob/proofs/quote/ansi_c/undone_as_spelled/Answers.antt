-- Each text is one of four, and each of the four has one answer.
use Rattle.std.proofs.Common.{arith, ◌≡◌, ℕ, List, Err}
use Rattle.std.proofs.lemmas.Bool.Decides.{nat_tests}
use Rattle.attr_glob.specs.Quotes.{undone, IsUnclosed, IsBadEscape, BeginsQuoted, not_quoted, unclosed, bad_escape}
use Rattle.attr_glob.proofs.Outcomes.{undone-IsQuoted, undone-IsUnclosed, undone-IsBadEscape, undone-unquoted, Outcome, quoted, ends, bad}
use Rattle.attr_glob.proofs.Outcomes.{plain_text, outcome}
use Rattle.attr_glob.proofs.UndoneTexts.{IsQuoted-undone}
use Rattle.attr_glob.proofs.quote.ansi_c.undone_as_spelled.Goals as goal

IsUnclosed-undone : (text : List ℕ) → Outcome text → undone text ≡ Err unclosed → IsUnclosed text
IsUnclosed-undone text (quoted plain taken q) e = let e' = undone-IsQuoted text plain taken q in absurd cc
IsUnclosed-undone text (ends u) e = u
IsUnclosed-undone text (bad offset b) e = let e' = undone-IsBadEscape text offset b in absurd cc
IsUnclosed-undone text (plain_text n) e = let e' = undone-unquoted text n in absurd cc

IsBadEscape-undone : (text : List ℕ) (offset : ℕ) → Outcome text → undone text ≡ Err (bad_escape offset) → IsBadEscape text offset
IsBadEscape-undone text offset (quoted plain taken q) e = let e' = undone-IsQuoted text plain taken q in absurd cc
IsBadEscape-undone text offset (ends u) e = let e' = undone-IsUnclosed text u in absurd cc
IsBadEscape-undone text offset (bad offset' b) e = grind (arith, nat_tests, undone-IsBadEscape)
IsBadEscape-undone text offset (plain_text n) e = let e' = undone-unquoted text n in absurd cc

unquoted-undone : (text : List ℕ) → Outcome text → undone text ≡ Err not_quoted → ¬ BeginsQuoted text
unquoted-undone text (quoted plain taken q) e = let e' = undone-IsQuoted text plain taken q in absurd cc
unquoted-undone text (ends u) e = let e' = undone-IsUnclosed text u in absurd cc
unquoted-undone text (bad offset b) e = let e' = undone-IsBadEscape text offset b in absurd cc
unquoted-undone text (plain_text n) e = n

pub returns : goal.returns
returns c = record {
  quoted = λ text plain taken. (IsQuoted-undone text plain taken, undone-IsQuoted text plain taken);
  not_quoted = λ text. (unquoted-undone text (outcome text), undone-unquoted text);
  unclosed = λ text. (IsUnclosed-undone text (outcome text), undone-IsUnclosed text);
  bad_escape = λ text offset. (IsBadEscape-undone text offset (outcome text), undone-IsBadEscape text offset);
}

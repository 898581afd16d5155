-- What is undone is the quoted text in front, and lies within the text.
use Rattle.std.proofs.Common.{◌≡◌, ℕ, ◌≤◌, List, length, Ok, arith, length-append}
use Rattle.std.proofs.lemmas.Bool.Decides.{nat_tests}
use Rattle.attr_glob.specs.Quotes.{undone, IsQuoted}
use Rattle.attr_glob.proofs.Outcomes.{undone-IsQuoted, undone-IsUnclosed, undone-IsBadEscape, undone-unquoted, Outcome, quoted, ends, bad}
use Rattle.attr_glob.proofs.Outcomes.{plain_text, outcome}

quoted_by : (text plain : List ℕ) (taken : ℕ) → Outcome text → undone text ≡ Ok (plain, taken) → IsQuoted text plain taken
quoted_by text plain taken (quoted plain' taken' q) e = grind (arith, nat_tests, undone-IsQuoted)
quoted_by text plain taken (ends u) e = let e' = undone-IsUnclosed text u in absurd cc
quoted_by text plain taken (bad offset b) e = let e' = undone-IsBadEscape text offset b in absurd cc
quoted_by text plain taken (plain_text n) e = let e' = undone-unquoted text n in absurd cc

pub IsQuoted-undone : (text plain : List ℕ) (taken : ℕ) → undone text ≡ Ok (plain, taken) → IsQuoted text plain taken
IsQuoted-undone text plain taken e = quoted_by text plain taken (outcome text) e

pub IsQuoted-inside : (text plain : List ℕ) (taken : ℕ) → IsQuoted text plain taken → taken ≤ length text
IsQuoted-inside text plain taken q = grind (arith, nat_tests, length-append)

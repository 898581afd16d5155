-- By the first quote or backslash after the opening quote.
use Rattle.std.proofs.lemmas.Grind.{common_steps}
use Rattle.std.proofs.Common.{◌≢◌, ◌-◌, length, drop, take, get_or, position, ap, sym, ◌∙◌, arith}
use Rattle.std.proofs.lemmas.Bool.Decides.{nat_tests}
use Rattle.std.proofs.lemmas.Slice.{between_to_end}
use Rattle.attr_wildmatch.specs.Bytes.{quote}
use Rattle.attr_glob.specs.Quotes.{is_mark, BeginsQuoted}
use Rattle.attr_glob.proofs.Fronts.{undone-unmarked, undone-marked, HoldsEscape-marked, HoldsEscape-Contains, no_escape}
use Rattle.attr_glob.proofs.UndoneTexts.{IsQuoted-undone, IsQuoted-inside}
use Rattle.attr_glob.proofs.quote.ansi_c.undo.Goals as goal

pub returns-in_default-first_mark-clause-refused : goal.returns-in_default-first_mark-clause-refused
returns-in_default-first_mark-clause-refused c =
    grind (arith, common_steps, nat_tests, between_to_end, undone-unmarked, c.as_bytes-text.ensures, c.in_default-first_mark.ensures)

pub returns-then-tail-front_len-eq34-clause-value : goal.returns-then-tail-front_len-eq34-clause-value
returns-then-tail-front_len-eq34-clause-value c =
    grind (arith, common_steps, nat_tests, between_to_end, undone-marked, c.if-tail-front_len-eq34.true, c.in-Some.ensures, c.as_bytes-text.ensures)

pub returns-then-tail-front_len-eq34-clause-quoted : goal.returns-then-tail-front_len-eq34-clause-quoted
returns-then-tail-front_len-eq34-clause-quoted c =
    let text = c.as_bytes-text.result.now in
    let tail = between_to_end text 1 (length text) (omega arith) in
    let quoted : BeginsQuoted text = omega arith in
    let at_quote = rw tail at c.if-tail-front_len-eq34.true in
    let found = ap (position is_mark) (sym tail) ∙ sym c.in-Some.ensures in
    rw (← c.as_bytes-text.ensures, tail) (IsQuoted-undone text _ _ (undone-marked text c.in-Some.front_len quoted found at_quote))

pub returns-clause-quoted : goal.returns-clause-quoted
returns-clause-quoted c = rw (← c.as_bytes-text.ensures) (IsQuoted-undone c.as_bytes-text.result.now _ _ c.in_ok-plain.ensures.value)

pub returns-clause-inside : goal.returns-clause-inside
returns-clause-inside c =
    let text = c.as_bytes-text.result.now in
    let quoted = IsQuoted-undone text _ _ c.in_ok-plain.ensures.value in
    rw (← c.as_bytes-text.ensures) (IsQuoted-inside text _ _ quoted)

pub returns-then-tail-front_len-eq34-clause-lent : goal.returns-then-tail-front_len-eq34-clause-lent
returns-then-tail-front_len-eq34-clause-lent c =
    grind (arith, common_steps, nat_tests, between_to_end, no_escape, c.if-tail-front_len-eq34.true, c.in-Some.ensures, c.as_bytes-text.ensures)

pub undo_escapes-requires : goal.undo_escapes-requires
undo_escapes-requires c =
    let text = c.as_bytes-text.result.now in
    let tail = between_to_end text 1 (length text) (omega arith) in
    let found = ap (position is_mark) (sym tail) ∙ sym c.in-Some.ensures in
    let quoted : BeginsQuoted text = omega arith in
    let no_quote : get_or (take (length text - 1) (drop 1 text)) c.in-Some.front_len 0 ≢ quote = λ e. omega arith in
    HoldsEscape-marked text c.in-Some.front_len quoted found (rw tail at no_quote)

pub returns-clause-lent : goal.returns-clause-lent
returns-clause-lent c =
    let text = c.as_bytes-text.result.now in
    let tail = between_to_end text 1 (length text) (omega arith) in
    let found = ap (position is_mark) (sym tail) ∙ sym c.in-Some.ensures in
    let quoted : BeginsQuoted text = omega arith in
    let no_quote : get_or (take (length text - 1) (drop 1 text)) c.in-Some.front_len 0 ≢ quote = λ e. omega arith in
    rw (← c.as_bytes-text.ensures) (λ _. HoldsEscape-marked text c.in-Some.front_len quoted found (rw tail at no_quote), λ _. tt)

pub returns-in_err-plain-clause-memory : goal.returns-in_err-plain-clause-memory
returns-in_err-plain-clause-memory c = grind (arith, nat_tests, between_to_end, HoldsEscape-Contains, HoldsEscape-marked)

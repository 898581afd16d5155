-- Each turn undoes one more byte.
use Rattle.std.proofs.Common.{◌≡◌, ◌+◌, length, drop, Some, ap, ◌∙◌, arith}
use Rattle.std.proofs.lemmas.Bool.Decides.{nat_tests}
use Rattle.std.proofs.lemmas.Slice.{between_to_end}
use Rattle.attr_glob.specs.Quotes.{escaped, undone}
use Rattle.attr_glob.proofs.Undoing.{undone_from-plain, undone_from-escape}
use Rattle.attr_glob.proofs.quote.ansi_c.undo_escapes.Goals as goal

pub loop-offset-preserved-in-92 : goal.loop-offset-preserved-in-92
loop-offset-preserved-in-92 c =
    let text = c.args.text.now in
    let offset = c.loop-offset.offset in
    let read : Some (c.in-Some.byte, c.in-Some.len) ≡ escaped (drop (offset + 1) text) =
    c.in-Some.ensures ∙ ap escaped (between_to_end text (offset + 1) (length text) (omega arith)) in
    let turn = undone_from-escape text c.loop-offset.plain.items offset (c.in-Some.byte, c.in-Some.len) (omega arith) c.in-92.is read (undone text)
    c.loop-offset.invariant.1 in
    (turn.inside, rw c.in_ok-push-in-92.ensures.items turn.so_far)

pub loop-offset-preserved : goal.loop-offset-preserved
loop-offset-preserved c = grind (arith, nat_tests, undone_from-plain)

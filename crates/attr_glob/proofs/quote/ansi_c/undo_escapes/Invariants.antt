use Rattle.std.proofs.Common.{length, ◌-◌, ◌≡◌, ◌≤◌, drop}
use Rattle.attr_glob.specs.Quotes.{undone, undone_from, with_front}
use Rattle.attr_glob.proofs.quote.ansi_c.undo_escapes.Given as goal

abbrev pub invariant-loop-offset : goal.invariant-loop-offset
invariant-loop-offset l =
    (l.offset ≤ length l.text) × (undone l.text ≡ with_front l.plain.items (undone_from l.offset 0 (drop l.offset l.text)))

abbrev pub decreases-loop-offset : goal.decreases-loop-offset
decreases-loop-offset l = length l.text - l.offset

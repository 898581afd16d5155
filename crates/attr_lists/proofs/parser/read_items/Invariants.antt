-- The items that were read so far are assignments, and with those that are left they make the result of all.
use Rattle.std.proofs.Common.{length}
use Rattle.attr_lists.proofs.ReadingLemmas.{ItemsSoFar}
use Rattle.attr_lists.proofs.parser.read_items.Given as goal

abbrev pub invariant-loop-name : goal.invariant-loop-name
invariant-loop-name l = ItemsSoFar l.fn.items l.items l.initial.names l.names l.assignments.items

abbrev pub decreases-loop-name : goal.decreases-loop-name
decreases-loop-name l = length l.items

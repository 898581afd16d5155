-- The lines that were read so far have no results.
use Rattle.std.proofs.Common.{◌≡◌, ◌≤◌}
use Rattle.attr_lists.proofs.parse.Lines.next_result.Given as goal

abbrev pub invariant-loop-found : goal.invariant-loop-found
invariant-loop-found l = (l.initial.self.results ≡ l.self.results) × (l.self.lines ≤ l.initial.self.lines)

abbrev pub decreases-loop-found : goal.decreases-loop-found
decreases-loop-found l = l.self.lines

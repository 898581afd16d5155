-- What is looked for stands nowhere before what is left.
use Rattle.std.proofs.Common.{◌≡◌, ◌≤◌, length}
use Rattle.attr_wildmatch.specs.inner.FirstBytes.{begins_with_pair, from_first}
use Rattle.attr_wildmatch.proofs.wildmatch.first_bytes.from_pair.Given as goal

abbrev pub invariant-loop-others : goal.invariant-loop-others
invariant-loop-others l =
    (from_first (begins_with_pair l.first l.second) l.rest ≡ from_first (begins_with_pair l.first l.second) l.value)
    × (length l.rest ≤ length l.value)

abbrev pub decreases-loop-others : goal.decreases-loop-others
decreases-loop-others l = length l.rest

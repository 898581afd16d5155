-- The pair stands nowhere before what is left.
use Rattle.std.proofs.Common.{◌≡◌, ◌≤◌, ◌-◌, length, drop}
use Rattle.attr_wildmatch.specs.inner.FirstBytes.{begins_with_pair, from_first}
use Rattle.attr_wildmatch.proofs.wildmatch.first_bytes.skip_pairs.Given as goal

abbrev pub invariant-loop-rest : goal.invariant-loop-rest
invariant-loop-rest l =
    (from_first (begins_with_pair l.first l.second) l.rest ≡ from_first (begins_with_pair l.first l.second) l.value)
    × (length l.rest ≤ length l.value)
    × (l.rest ≡ drop (length l.value - length l.rest) l.value)

abbrev pub decreases-loop-rest : goal.decreases-loop-rest
decreases-loop-rest l = length l.rest

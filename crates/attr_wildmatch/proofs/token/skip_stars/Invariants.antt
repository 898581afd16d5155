use Rattle.std.proofs.Common.{◌≡◌, ◌≤◌, length}
use Rattle.attr_wildmatch.specs.Tokens.{after_stars}
use Rattle.attr_wildmatch.proofs.token.skip_stars.Given as goal

abbrev pub invariant-loop-rest : goal.invariant-loop-rest
invariant-loop-rest l = (after_stars l.rest ≡ after_stars l.bytes) × (length l.rest ≤ length l.bytes)

abbrev pub decreases-loop-rest : goal.decreases-loop-rest
decreases-loop-rest l = length l.rest

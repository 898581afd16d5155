use Rattle.std.proofs.Common.{◌≡◌, ◌||◌, ℕ, length}
use Rattle.attr_wildmatch.specs.Pairs.{has_pair, holds}
use Rattle.attr_wildmatch.proofs.pairs.Pairs.of.Given as goal

abbrev pub invariant-loop-rest : goal.invariant-loop-rest
invariant-loop-rest l = (k : ℕ) → (holds l.pairs k || has_pair k l.rest) ≡ has_pair k l.text

abbrev pub decreases-loop-rest : goal.decreases-loop-rest
decreases-loop-rest l = length l.rest

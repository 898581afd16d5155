use Rattle.std.proofs.Common.{◌≡◌, ◌||◌, ℕ, length}
use Rattle.attr_wildmatch.specs.TokenList.{tokens_of}
use Rattle.attr_wildmatch.specs.Pairs.{holds, needs_pair}
use Rattle.attr_wildmatch.proofs.pairs.Pairs.of_tokens.Given as goal

abbrev pub invariant-loop-rest : goal.invariant-loop-rest
invariant-loop-rest l = (k : ℕ) → (holds l.pairs k || needs_pair k (tokens_of l.rest)) ≡ needs_pair k (tokens_of l.tokens)

abbrev pub decreases-loop-rest : goal.decreases-loop-rest
decreases-loop-rest l = length l.rest

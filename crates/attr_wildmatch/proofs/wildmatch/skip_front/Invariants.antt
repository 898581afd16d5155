use Rattle.std.proofs.Common.{◌≡◌, length}
use Rattle.attr_wildmatch.specs.TokenList.{tokens_of}
use Rattle.attr_wildmatch.specs.inner.Stretches.{front_left}
use Rattle.attr_wildmatch.proofs.wildmatch.skip_front.Given as goal

abbrev pub invariant-loop-token : goal.invariant-loop-token
invariant-loop-token l = front_left l.case (tokens_of l.tokens) l.value ≡ front_left l.case (tokens_of l.left) l.rest

abbrev pub decreases-loop-token : goal.decreases-loop-token
decreases-loop-token l = length l.left

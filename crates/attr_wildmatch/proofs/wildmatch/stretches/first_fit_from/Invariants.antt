use Rattle.std.proofs.Common.{◌≡◌, length}
use Rattle.attr_wildmatch.specs.TokenList.{tokens_of}
use Rattle.attr_wildmatch.specs.inner.Stretches.{first_left}
use Rattle.attr_wildmatch.proofs.wildmatch.stretches.first_fit_from.Given as goal

abbrev pub invariant-loop-left : goal.invariant-loop-left
invariant-loop-left l = first_left l.case (tokens_of l.tokens) l.value ≡ first_left l.case (tokens_of l.tokens) l.rest

abbrev pub decreases-loop-left : goal.decreases-loop-left
decreases-loop-left l = length l.rest

use Rattle.std.proofs.Common.{◌≡◌, length}
use Rattle.attr_wildmatch.specs.Deciding.{matches}
use Rattle.attr_wildmatch.specs.TokenList.{tokens_of}
use Rattle.attr_wildmatch.proofs.StretchLemmas.{Plain}
use Rattle.attr_wildmatch.proofs.wildmatch.stretches.match_plain.Given as goal

abbrev pub invariant-loop-others : goal.invariant-loop-others
invariant-loop-others l = (matches l.case (tokens_of l.tokens) l.value ≡ matches l.case (tokens_of l.left) l.rest) × Plain l.rest

abbrev pub decreases-loop-others : goal.decreases-loop-others
decreases-loop-others l = length l.left

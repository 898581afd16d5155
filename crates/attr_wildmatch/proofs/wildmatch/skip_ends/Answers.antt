use Rattle.std.proofs.Common.{sym, subst}
use Rattle.attr_wildmatch.specs.TokenList.{tokens_of}
use Rattle.attr_wildmatch.specs.inner.Left.{AreTakenOff}
use Rattle.attr_wildmatch.proofs.Ends.{taken_off_then, front_taken_off}
use Rattle.attr_wildmatch.proofs.wildmatch.skip_ends.Goals as goal

pub returns : goal.returns
returns c =
    let left = tokens_of c.in_ok-left.left.now in
    let rest = c.in_ok-left.rest.now in
    taken_off_then c.args.case (tokens_of c.args.tokens.now) left c.args.value.now rest _ c.in_ok-left.ensures
    (subst (AreTakenOff c.args.case left rest) (sym c.skip_front.ensures) (front_taken_off c.args.case left rest))

use Rattle.std.proofs.Common.{refl, arith}
use Rattle.std.proofs.lemmas.Bool.Decides.{nat_tests}
use Rattle.attr_wildmatch.specs.inner.FirstBytes.{begins_with_pair}
use Rattle.attr_wildmatch.proofs.FirstBytes.{left_after, over_eight, none_in_end, no_pair}
use Rattle.attr_wildmatch.proofs.wildmatch.first_bytes.skip_pairs.Goals as goal

pub loop-rest-preserved : goal.loop-rest-preserved
loop-rest-preserved c = grind (arith, nat_tests, over_eight, left_after)

pub returns-then-not-may_hold_pair-clause-same : goal.returns-then-not-may_hold_pair-clause-same
returns-then-not-may_hold_pair-clause-same c =
    none_in_end (begins_with_pair c.args.first c.args.second) 9 c.args.value.now c.loop-rest.rest.now (no_pair c.args.first c.args.second)
    (omega (arith, c.if-rest-lt9.true)) (omega arith) (omega (arith, c.if-value-ge9.true)) c.loop-rest.invariant.2 c.loop-rest.invariant.0
    (c.if-not-may_hold_pair.ensures.passed refl)

use Rattle.std.proofs.Common.{◌∙◌, sym}
use Rattle.gix_attributes.proofs.NeededLemmas.{marked_one}
use Rattle.gix_attributes.proofs.search.needed.mark.Goals as goal

pub returns-in_ok-push-clause-marked : goal.returns-in_ok-push-clause-marked
returns-in_ok-push-clause-marked c =
    rw (c.in_ok-set.ensures.ok, c.in_ok-push.ensures.items)
    (marked_one c.args.flags.now c.args.stack.now.items c.args.attribute c.requires (sym c.has.ensures ∙ c.if-not-has.true))

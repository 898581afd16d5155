use Rattle.std.proofs.Common.{arith}
use Rattle.attr_search.proofs.BodyLemmas.{cut_sized, grown_more, kept_more}
use Rattle.attr_search.proofs.bodies.resize.Goals as goal

pub loop-preserved : goal.loop-preserved
loop-preserved c = grind (arith, grown_more, kept_more)

pub returns-clause-ok : goal.returns-clause-ok
returns-clause-ok c = grind (arith, cut_sized)

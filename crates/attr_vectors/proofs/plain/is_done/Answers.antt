use Rattle.std.proofs.Common.{arith}
use Rattle.std.proofs.lemmas.Bool.Decides.{nat_tests}
use Rattle.attr_vectors.proofs.Seen.{not_done_at, done_more}
use Rattle.attr_vectors.proofs.plain.is_done.Goals as goal

pub returns-then-is_none : goal.returns-then-is_none
returns-then-is_none c = grind (arith, nat_tests, not_done_at)

pub loop-attribute-preserved : goal.loop-attribute-preserved
loop-attribute-preserved c = grind (arith, nat_tests, done_more)

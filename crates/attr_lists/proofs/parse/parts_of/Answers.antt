use Rattle.std.proofs.Common.{arith}
use Rattle.std.proofs.lemmas.Grind.{common_steps}
use Rattle.attr_lists.proofs.parse.parts_of.Goals as goal

pub returns-in-Some-eq45 : goal.returns-in-Some-eq45
returns-in-Some-eq45 c = grind (arith, common_steps)

pub returns-in-Some-eq33 : goal.returns-in-Some-eq33
returns-in-Some-eq33 c = grind (arith, common_steps)

pub returns-in_default : goal.returns-in_default
returns-in_default c = grind (arith, common_steps)

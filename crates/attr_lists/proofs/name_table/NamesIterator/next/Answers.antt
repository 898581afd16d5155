use Rattle.std.proofs.Common.{arith}
use Rattle.attr_lists.proofs.name_table.NamesIterator.next.Goals as goal

pub returns-clause-steps : goal.returns-clause-steps
returns-clause-steps c = grind arith

use Rattle.std.proofs.Common.{arith}
use Rattle.attr_table.proofs.Cuts.{end_cut, turned_by_wanted}
use Rattle.attr_table.proofs.Ends.{roots_end}
use Rattle.attr_table.proofs.laws.walk_cuts.Goals as goal

pub returns : goal.returns
returns c = grind (arith, end_cut, roots_end, turned_by_wanted)

use Rattle.attr_table.proofs.Cuts.{same_searched}
use Rattle.attr_table.proofs.laws.one_outcome.Goals as goal

pub returns : goal.returns
returns c = same_searched

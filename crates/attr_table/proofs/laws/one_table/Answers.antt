use Rattle.attr_table.proofs.Ends.{OneTable-of}
use Rattle.attr_table.proofs.laws.one_table.Goals as goal

pub returns : goal.returns
returns c = OneTable-of

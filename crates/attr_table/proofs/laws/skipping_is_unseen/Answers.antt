use Rattle.attr_table.proofs.Skipping.{skipping_unseen}
use Rattle.attr_table.proofs.laws.skipping_is_unseen.Goals as goal

pub returns : goal.returns
returns c = skipping_unseen

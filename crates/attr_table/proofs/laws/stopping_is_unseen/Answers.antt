use Rattle.attr_table.proofs.Cuts.{seen_wanted, seen_others}
use Rattle.attr_table.proofs.laws.stopping_is_unseen.Goals as goal

pub returns : goal.returns
returns c = record { wanted = seen_wanted; others = seen_others }

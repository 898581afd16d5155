use Rattle.attr_table.proofs.Cuts.{searched_joined}
use Rattle.attr_table.proofs.laws.searches_join.Goals as goal

pub returns : goal.returns
returns c = searched_joined

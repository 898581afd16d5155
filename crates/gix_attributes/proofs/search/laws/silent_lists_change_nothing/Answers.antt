use Rattle.gix_attributes.proofs.SearchLaws.{silent_changes_nothing}
use Rattle.gix_attributes.proofs.search.laws.silent_lists_change_nothing.Goals as goal

pub returns : goal.returns
returns c = silent_changes_nothing

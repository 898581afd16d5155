use Rattle.gix_attributes.proofs.LookupLemmas.{unfinished_whole}
use Rattle.gix_attributes.proofs.search.laws.unfinished_searches_leave_the_whole_table.Goals as goal

pub returns : goal.returns
returns c = unfinished_whole

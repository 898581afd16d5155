use Rattle.gix_attributes.proofs.LookupLemmas.{joined_lookups}
use Rattle.gix_attributes.proofs.search.laws.further_searches_join.Goals as goal

pub returns : goal.returns
returns c = joined_lookups

use Rattle.gix_attributes.proofs.LookupLemmas.{looked_up_answers}
use Rattle.gix_attributes.proofs.search.laws.answers_are_of_the_only_table.Goals as goal

pub returns : goal.returns
returns c = looked_up_answers

use Rattle.gix_attributes.proofs.ToldLemmas.{answers_to_told, finds_for_told, number_told, popped_told}
use Rattle.gix_attributes.proofs.engine.laws.sources_only_tell.Goals as goal

pub returns-clause-answers : goal.returns-clause-answers
returns-clause-answers c = answers_to_told

pub returns-clause-found : goal.returns-clause-found
returns-clause-found c = finds_for_told

pub returns-clause-popped : goal.returns-clause-popped
returns-clause-popped c = popped_told

pub returns-clause-numbers : goal.returns-clause-numbers
returns-clause-numbers c = number_told

use Rattle.gix_attributes.proofs.LookupLemmas.{copied_answers}
use Rattle.gix_attributes.proofs.search.laws.copies_return_the_answers.Goals as goal

pub returns : goal.returns
returns c q before after names looked fewer = copied_answers q before after looked names fewer

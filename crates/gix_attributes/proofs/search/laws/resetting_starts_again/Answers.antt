use Rattle.gix_attributes.proofs.OutcomeLemmas.{emptied_again, reset_at_first, reset_searched}
use Rattle.gix_attributes.proofs.search.laws.resetting_starts_again.Goals as goal

pub returns : goal.returns
returns c = record { initialized = reset_at_first; searched = reset_searched; again = emptied_again }

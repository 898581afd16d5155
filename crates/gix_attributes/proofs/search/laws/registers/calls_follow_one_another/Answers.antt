use Rattle.gix_attributes.proofs.KeepingLemmas.{adds_then, keeps_then}
use Rattle.gix_attributes.proofs.search.laws.registers.calls_follow_one_another.Goals as goal

pub returns : goal.returns
returns c = record { kept = keeps_then; added = adds_then }

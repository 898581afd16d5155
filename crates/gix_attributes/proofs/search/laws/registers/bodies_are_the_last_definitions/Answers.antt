use Rattle.gix_attributes.proofs.KeepingLemmas.{bodies_registered}
use Rattle.gix_attributes.proofs.search.laws.registers.bodies_are_the_last_definitions.Goals as goal

pub returns : goal.returns
returns c = bodies_registered

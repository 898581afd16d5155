use Rattle.gix_attributes.proofs.KeepingLemmas.{bodies_have_names}
use Rattle.gix_attributes.proofs.search.laws.registers.bodies_have_names.Goals as goal

pub returns : goal.returns
returns c = bodies_have_names

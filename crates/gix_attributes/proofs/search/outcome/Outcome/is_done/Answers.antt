use Rattle.std.proofs.Common.{arith}
use Rattle.std.proofs.lemmas.Bool.Decides.{nat_tests}
use Rattle.gix_attributes.proofs.OutcomeLemmas.{wanted_by_flags}
use Rattle.gix_attributes.proofs.search.outcome.Outcome.is_done.Goals as goal

pub returns : goal.returns
returns c = grind (arith, nat_tests, wanted_by_flags, c.is_done.ensures, c.self.invariant.wanted)

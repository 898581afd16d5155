use Rattle.std.proofs.Common.{arith}
use Rattle.std.proofs.lemmas.Bool.Decides.{nat_tests}
use Rattle.gix_attributes.proofs.SelectionLemmas.{copied_elsewhere}
use Rattle.gix_attributes.proofs.search.outcome.Outcome.clone.Goals as goal

pub invariant_of-result : goal.invariant_of-result
invariant_of-result c = grind (arith, nat_tests, copied_elsewhere)

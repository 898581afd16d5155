use Rattle.gix_attributes.proofs.OutcomeLemmas.{names_looked_up, looked_up_again}
use Rattle.std.proofs.Common.{arith}
use Rattle.std.proofs.lemmas.Bool.Decides.{nat_tests}
use Rattle.std.proofs.lemmas.Result.{on_ok_weaker}
use Rattle.gix_attributes.proofs.search.outcome.Outcome.initialize_with_selection.Goals as goal

pub set_up-requires : goal.set_up-requires
set_up-requires c = looked_up_again _ _ _ c.in_ok-selected.ensures

pub returns-clause-ok : goal.returns-clause-ok
returns-clause-ok c = grind (arith, nat_tests, on_ok_weaker, names_looked_up, c.in_ok-selected.ensures, c.set_up.ensures.ok)

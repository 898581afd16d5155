use Rattle.std.proofs.lemmas.Bool.Decides.{nat_tests}
use Rattle.std.proofs.Common.{arith}
use Rattle.std.proofs.lemmas.Result.{on_ok_weaker}
use Rattle.gix_attributes.proofs.AnswerLemmas.{names_stay}
use Rattle.gix_attributes.proofs.OutcomeLemmas.{looked_up_again, names_looked_up}
use Rattle.gix_attributes.proofs.engine.prepare.Goals as goal

pub returns-in_err-names-clause-names : goal.returns-in_err-names-clause-names
returns-in_err-names-clause-names c = grind (arith, nat_tests, names_looked_up)

pub narrow-requires-clause-selected : goal.narrow-requires-clause-selected
narrow-requires-clause-selected c = grind (arith, nat_tests, looked_up_again)

pub returns-clause-ready : goal.returns-clause-ready
returns-clause-ready c = grind (arith, nat_tests, on_ok_weaker, names_looked_up)

pub returns-clause-names : goal.returns-clause-names
returns-clause-names c = grind (arith, nat_tests, names_stay, on_ok_weaker, names_looked_up)

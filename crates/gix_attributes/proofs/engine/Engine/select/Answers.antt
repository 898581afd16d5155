use Rattle.std.proofs.lemmas.Bool.Decides.{nat_tests}
use Rattle.std.proofs.Common.{arith}
use Rattle.gix_attributes.proofs.AnswerLemmas.{current_at_first}
use Rattle.gix_attributes.proofs.OutcomeLemmas.{looked_up_again, names_looked_up}
use Rattle.gix_attributes.proofs.engine.Engine.select.Goals as goal

pub narrow-requires-clause-selected : goal.narrow-requires-clause-selected
narrow-requires-clause-selected c = looked_up_again _ _ _ c.in_ok-selected.ensures

pub invariant_of-self-2 : goal.invariant_of-self-2
invariant_of-self-2 c = grind (arith, nat_tests, current_at_first)

pub returns-clause-selected : goal.returns-clause-selected
returns-clause-selected c = grind (arith, nat_tests, names_looked_up)

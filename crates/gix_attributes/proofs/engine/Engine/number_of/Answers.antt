use Rattle.std.proofs.lemmas.Bool.Decides.{nat_tests}
use Rattle.std.proofs.Common.{arith}
use Rattle.std.proofs.lemmas.Option.{slice_get_read}
use Rattle.gix_attributes.proofs.AnswerLemmas.{answer_number}
use Rattle.gix_attributes.proofs.engine.Engine.number_of.Goals as goal

pub returns : goal.returns
returns c = grind (arith, nat_tests, slice_get_read, answer_number)

use Rattle.gix_attributes.proofs.AnswerLemmas.{at_index}
use Rattle.std.proofs.lemmas.Bool.Decides.{nat_tests}
use Rattle.std.proofs.Common.{arith}
use Rattle.std.proofs.lemmas.Option.{slice_get_read}
use Rattle.gix_attributes.proofs.engine.Engine.answer.Goals as goal

pub returns : goal.returns
returns c = grind (arith, nat_tests, slice_get_read, at_index)

use Rattle.std.proofs.Common.{arith}
use Rattle.std.proofs.lemmas.Bool.Decides.{nat_tests}
use Rattle.attr_keys.proofs.Cuts.{none_begins}
use Rattle.attr_keys.proofs.key.may_begin_with.Goals as goal

pub returns : goal.returns
returns g c = grind (arith, nat_tests, none_begins)

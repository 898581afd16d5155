use Rattle.std.proofs.lemmas.List.{length-reverse}
use Rattle.std.proofs.Common.{arith}
use Rattle.std.proofs.lemmas.Bool.Decides.{nat_tests}
use Rattle.attr_keys.proofs.Cuts.{first_is}
use Rattle.attr_keys.proofs.key.first_code.Goals as goal

pub returns-then-not-is_empty : goal.returns-then-not-is_empty
returns-then-not-is_empty c = grind (arith, nat_tests, length-reverse, first_is)

use Rattle.std.proofs.Common.{arith}
use Rattle.std.proofs.lemmas.Bool.Decides.{nat_tests}
use Rattle.attr_glob.proofs.BaseNameOffsets.{name_of}
use Rattle.attr_glob.proofs.pattern.base_name.Goals as goal

pub returns-in-None : goal.returns-in-None
returns-in-None c = grind (arith, nat_tests, name_of, c.requires, c.in-None.is)

use Rattle.std.proofs.Common.{arith}
use Rattle.std.proofs.lemmas.Bool.Decides.{nat_tests}
use Rattle.attr_glob.proofs.Copies.{copies_more}
use Rattle.attr_glob.proofs.search.pattern.copies.Goals as goal

pub loop-mapping-preserved : goal.loop-mapping-preserved
loop-mapping-preserved g c = grind (arith, nat_tests, copies_more)

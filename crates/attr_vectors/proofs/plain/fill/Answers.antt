use Rattle.std.proofs.Common.{arith}
use Rattle.std.proofs.lemmas.Bool.Decides.{nat_tests}
use Rattle.attr_vectors.proofs.Seen.{fill-seen}
use Rattle.attr_vectors.proofs.plain.fill.Goals as goal

pub returns : goal.returns
returns c = grind (arith, nat_tests, fill-seen)

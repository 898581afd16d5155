use Rattle.std.proofs.Common.{arith}
use Rattle.std.proofs.lemmas.Bool.Decides.{nat_tests}
use Rattle.attr_keys.proofs.Parts.{order_seen}
use Rattle.attr_keys.proofs.key.row_order.Goals as goal

pub returns : goal.returns
returns g c = grind (arith, nat_tests, order_seen)

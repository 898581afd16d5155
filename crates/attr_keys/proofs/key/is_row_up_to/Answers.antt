use Rattle.std.proofs.Common.{arith}
use Rattle.std.proofs.lemmas.Bool.Decides.{nat_tests}
use Rattle.attr_keys.proofs.Parts.{order_seen}
use Rattle.attr_keys.proofs.SeenTexts.{codes_in_case}
use Rattle.attr_keys.proofs.key.is_row_up_to.Goals as goal

pub returns : goal.returns
returns g c = grind (arith, nat_tests, order_seen, codes_in_case)

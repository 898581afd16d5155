use Rattle.std.proofs.Common.{arith}
use Rattle.std.proofs.lemmas.Bool.Decides.{nat_tests}
use Rattle.attr_keys.proofs.Parts.{has_if_long, lacks_if_other}
use Rattle.attr_keys.proofs.key.has_row_key.Goals as goal

pub returns-then-part-text : goal.returns-then-part-text
returns-then-part-text g c = grind (arith, nat_tests, lacks_if_other)

pub returns : goal.returns
returns g c = grind (arith, nat_tests, has_if_long)

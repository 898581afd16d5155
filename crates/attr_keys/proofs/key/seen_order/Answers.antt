use Rattle.std.proofs.Common.{arith}
use Rattle.std.proofs.lemmas.Bool.Decides.{nat_tests}
use Rattle.std.proofs.lemmas.Bool.{cases_lt}
use Rattle.attr_keys.proofs.Cuts.{ends_order}
use Rattle.attr_keys.proofs.SeenTexts.{length-seen}
use Rattle.attr_keys.proofs.key.seen_order.Goals as goal

pub returns : goal.returns
returns c = grind (arith, nat_tests, length-seen, ends_order, cases_lt)

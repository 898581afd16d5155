use Rattle.std.proofs.Common.{arith, append_assoc}
use Rattle.std.proofs.lemmas.Bool.Decides.{nat_tests}
use Rattle.check_attr.proofs.line_report.push_parsed.Goals as goal

pub loop-item-preserved : goal.loop-item-preserved
loop-item-preserved c = grind (arith, nat_tests, append_assoc, c.loop-item.invariant, c.in-Some.ensures.steps, c.in_ok-push_item.ensures)

use Rattle.check_attr.specs.LinesText.{line_text}
use Rattle.check_attr.proofs.ReportLemmas.{printed-more_line}
use Rattle.check_attr.proofs.line_report.report.Goals as goal

pub loop-line-preserved : goal.loop-line-preserved
loop-line-preserved c = printed-more_line _ line_text _ _ _ _ _ _ c.loop-line.invariant c.in-Some.ensures.steps c.in_ok-push_line.ensures

use Rattle.std.proofs.Common.{Ok}
use Rattle.std.specs.Prelude.{⊤}
use Rattle.check_attr.specs.ScriptText.{dropped_text}
use Rattle.check_attr.proofs.PieceLemmas.{holds_all, passes_more, passes_refused, stopped}
use Rattle.check_attr.proofs.dropped_lines.pass_line.Goals as goal

pub returns-in_err-write_full-clause-passed : goal.returns-in_err-write_full-clause-passed
returns-in_err-write_full-clause-passed g c =
    stopped g.W.Push.contents g.W.Push.failed g.W.Push.stalled ⊤ _ _ _ _ c.write_full.new.self _ _ _ _ c.from_residual.result
    c.from_residual.ensures.1 (holds_all g.W.Push.contents g.W.Push.failed g.W.Push.stalled _ _) c.in_err-write_full.ensures.passed

pub returns-in_err-push_line-clause-passed : goal.returns-in_err-push_line-clause-passed
returns-in_err-push_line-clause-passed g c =
    passes_refused g.W.Push.contents g.W.Push.failed g.W.Push.stalled _ _ _ _ _ c.from_residual-in_err-push_line.result
    c.from_residual-in_err-push_line.ensures.1
    (passes_more g.W.Push.contents g.W.Push.failed g.W.Push.stalled _ _ c.write_full.new.self _ (dropped_text c.args.source.now c.args.dropped)
    (Ok c.in_ok-write_full.field-0) c.in_ok-write_full.ensures.passed)

use Rattle.std.proofs.lemmas.Bool.Decides.{nat_tests}
use Rattle.std.proofs.lemmas.List.{drop_all, drop_more}
use Rattle.std.proofs.Common.{append-nil, Ok, arith, refl}
use Rattle.std.specs.Prelude.{⊤}
use Rattle.check_attr.specs.ScriptText.{dropped_text}
use Rattle.check_attr.proofs.PieceLemmas.{holds_all, passes_more, passes_on, pushed, stopped}
use Rattle.check_attr.proofs.dropped_lines.pass_dropped.Goals as goal

pub loop-line-init : goal.loop-line-init
loop-line-init g c = holds_all g.W.Push.contents g.W.Push.failed g.W.Push.stalled _ _

pub loop-line-preserved : goal.loop-line-preserved
loop-line-preserved g c =
    passes_on g.W.Push.contents g.W.Push.failed g.W.Push.stalled _ _ _ _ _ _ (Ok c.in_ok-pass_line.field-0)
    (pushed g.W.Push.contents g.W.Push.failed g.W.Push.stalled (dropped_text c.args.source.now) _ _ _ _ _ _ _ _ c.loop-line.invariant
    (drop_more c.args.dropped.now c.loop-line.line-index _ c.loop-line-test.true) refl)
    (passes_more g.W.Push.contents g.W.Push.failed g.W.Push.stalled _ _ _ _ _ (Ok c.in_ok-pass_line.field-0) c.in_ok-pass_line.ensures.passed)

pub returns-in_err-pass_line : goal.returns-in_err-pass_line
returns-in_err-pass_line g c =
    stopped g.W.Push.contents g.W.Push.failed g.W.Push.stalled ⊤ _ _ _ _ c.pass_line.new.held _ _ _ _ c.from_residual.result
    c.from_residual.ensures.1
    (pushed g.W.Push.contents g.W.Push.failed g.W.Push.stalled (dropped_text c.args.source.now) _ _ _ _ _ _ _ _ c.loop-line.invariant
    (drop_more c.args.dropped.now c.loop-line.line-index _ c.loop-line-test.true) refl)
    c.in_err-pass_line.ensures.passed

pub returns : goal.returns
returns g c = grind (arith, nat_tests, append-nil, drop_all, c.loop-line.invariant)

use Rattle.std.proofs.Common.{arith, append-nil, rules, ◌≡◌, ◌++◌, [], Ok, subst}
use Rattle.std.proofs.lemmas.Bool.Decides.{nat_tests}
use Rattle.std.specs.Prelude.{⊤, unwrap_or}
use Rattle.std.specs.List.{flat_map}
use Rattle.check_attr.specs.inner.MatchText.{match_entry}
use Rattle.check_attr.proofs.PieceLemmas.{Holds, holds_all, passes_more, passes_on, passes_refused, pushed, stopped}
use Rattle.check_attr.proofs.answers.pass_answers.Goals as goal

pub loop-one-init : goal.loop-one-init
loop-one-init g c =
    let text = match_entry c.args.question c.args.engine.now in
    let same : c.into_iter-one-iterator.result ≡ unwrap_or c.args.engine.now.answers [] = search rules in
    subst
    (λ found. Holds g.W.Push.contents g.W.Push.failed g.W.Push.stalled c.args.writer.now c.args.writer.now
    (c.args.held.now ++ flat_map text c.into_iter-one-iterator.result) (c.args.held.now ++ flat_map text found))
    same (holds_all g.W.Push.contents g.W.Push.failed g.W.Push.stalled _ _)

pub loop-one-preserved : goal.loop-one-preserved
loop-one-preserved g c =
    pushed g.W.Push.contents g.W.Push.failed g.W.Push.stalled (match_entry c.args.question c.args.engine.now) _ _ _ _ _ _ _ _
    (passes_on g.W.Push.contents g.W.Push.failed g.W.Push.stalled _ _ _ _ _ _ (Ok c.in_ok-write_full.field-0) c.loop-one.invariant
    (passes_more g.W.Push.contents g.W.Push.failed g.W.Push.stalled _ _ _ _ _ (Ok c.in_ok-write_full.field-0)
    c.in_ok-write_full.ensures.passed))
    c.in-Some.ensures.steps c.in_ok-push_entry.ensures

pub returns-in_err-write_full : goal.returns-in_err-write_full
returns-in_err-write_full g c =
    stopped g.W.Push.contents g.W.Push.failed g.W.Push.stalled ⊤ _ _ _ _ c.write_full.new.self _ _ _ _ c.from_residual.result
    c.from_residual.ensures.1 c.loop-one.invariant c.in_err-write_full.ensures.passed

pub returns-in_err-push_entry : goal.returns-in_err-push_entry
returns-in_err-push_entry g c =
    passes_refused g.W.Push.contents g.W.Push.failed g.W.Push.stalled _ _ _ _ _ c.from_residual-in_err-push_entry.result
    c.from_residual-in_err-push_entry.ensures.1
    (passes_on g.W.Push.contents g.W.Push.failed g.W.Push.stalled _ _ _ _ _ _ (Ok c.in_ok-write_full.field-0) c.loop-one.invariant
    (passes_more g.W.Push.contents g.W.Push.failed g.W.Push.stalled _ _ _ _ _ (Ok c.in_ok-write_full.field-0)
    c.in_ok-write_full.ensures.passed))

pub returns : goal.returns
returns g c = grind (arith, nat_tests, append-nil, c.loop-one.invariant, c.in-None.ensures.steps.0)

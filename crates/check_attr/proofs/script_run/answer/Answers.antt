use Rattle.std.proofs.lemmas.Bool.Decides.{nat_tests}
use Rattle.std.proofs.Common.{◌≡◌, ◌<◌, ◌+◌, Some, None, Ok, ◌++◌, length, option_map, refl, sym, ap, ◌∙◌, subst, arith, eqb-true}
use Rattle.std.proofs.lemmas.List.{nil_from_length}
use Rattle.std.specs.Prelude.{⊤}
use Rattle.check_attr.specs.Script.{BeginsWithRecord}
use Rattle.check_attr.specs.inner.ScriptParts.{IsFirstRecord}
use Rattle.check_attr.specs.ScriptText.{Writes}
use Rattle.check_attr.specs.inner.ScriptViews.{record_view, with_rest}
use Rattle.check_attr.specs.ScriptStates.{next_state}
use Rattle.check_attr.proofs.RunLemmas.{step, broken, done}
use Rattle.check_attr.proofs.SpellingLemmas.{shorter}
use Rattle.check_attr.proofs.PieceLemmas.{holds_all, holds_more, no_value, passes_on, passes_refused, stopped}
use Rattle.check_attr.proofs.TextLemmas.{OneText-of}
use Rattle.check_attr.proofs.script_run.answer.Goals as goal

pub loop-rest-init : goal.loop-rest-init
loop-rest-init g c =
    let nothing : length c.args.held.now ≡ 0 = ap length c.requires in record {
      counted = omega arith;
      passed = (
        c.args.held.now,
        holds_all g.W.Push.contents g.W.Push.failed g.W.Push.stalled c.args.writer.now c.args.held.now,
        λ malformed others left.
            subst (λ xs. Writes c.args.engine.now.state 1 c.args.script.now malformed (xs ++ others)) (sym c.requires) left,
      );
    }

pub loop-rest-preserved : goal.loop-rest-preserved
loop-rest-preserved g c =
    let read : BeginsWithRecord c.loop-rest.rest.now (record_view c.in-Some.next) c.in-Some.others.now =
    subst (λ o. IsFirstRecord c.loop-rest.rest.now (option_map (with_rest record_view) o)) c.in-Some.is c.in_ok-next.ensures in
    let less : length c.in-Some.others.now < length c.loop-rest.rest.now = shorter _ _ _ read in
    let applied = c.in_ok-apply.ensures in
    let so_far = c.loop-rest.invariant.passed in
    record {
      counted = omega (arith, less, c.loop-rest.invariant.counted);
      passed = (
        so_far.0 ++ applied.text.0,
        passes_on g.W.Push.contents g.W.Push.failed g.W.Push.stalled _ _ _ _ _ _ (Ok c.in_ok-apply.field-0)
            (holds_more g.W.Push.contents g.W.Push.failed g.W.Push.stalled _ _ _ _ applied.text.0 so_far.1)
            applied.text.2,
        step c.args.engine.now.state c.loop-rest.engine.state c.apply.new.engine.state c.args.script.now
            c.loop-rest.rest.now c.in-Some.others.now
            c.loop-rest.number (record_view c.in-Some.next) so_far.0 applied.text.0 so_far.2 read applied.text.1 applied.state,
      );
    }

pub loop-rest-smaller : goal.loop-rest-smaller
loop-rest-smaller g c = grind (arith, nat_tests, shorter)

-- what the others write is a text whether or not they are applied
pub returns-in_err-next : goal.returns-in_err-next
returns-in_err-next g c =
    let so_far = c.loop-rest.invariant.passed in
    let others = OneText-of c.loop-rest.engine.state c.loop-rest.number c.loop-rest.rest.now in (
      others.0,
      so_far.0 ++ others.1,
      so_far.2 others.0 others.1 others.2,
      no_value c.from_residual.result _ _ c.from_residual.ensures.1,
      passes_refused g.W.Push.contents g.W.Push.failed g.W.Push.stalled _ _ _ _ _ c.from_residual.result c.from_residual.ensures.1
          (holds_more g.W.Push.contents g.W.Push.failed g.W.Push.stalled _ _ _ _ others.1 so_far.1),
    )

pub returns-in_err-apply : goal.returns-in_err-apply
returns-in_err-apply g c =
    let read : BeginsWithRecord c.loop-rest.rest.now (record_view c.in-Some.next) c.in-Some.others.now =
    subst (λ o. IsFirstRecord c.loop-rest.rest.now (option_map (with_rest record_view) o)) c.in-Some.is c.in_ok-next.ensures in
    let applied = c.in_err-apply.ensures in
    let so_far = c.loop-rest.invariant.passed in
    let next = next_state (record_view c.in-Some.next) c.loop-rest.engine.state in
    let others = OneText-of next (c.loop-rest.number + 1) c.in-Some.others.now in (
      others.0,
      (so_far.0 ++ applied.text.0) ++ others.1,
      step c.args.engine.now.state c.loop-rest.engine.state next c.args.script.now c.loop-rest.rest.now c.in-Some.others.now
          c.loop-rest.number (record_view c.in-Some.next) so_far.0 applied.text.0 so_far.2 read applied.text.1 refl others.0 others.1 others.2,
      no_value c.from_residual-in_err-apply.result _ _ c.from_residual-in_err-apply.ensures.1,
      stopped g.W.Push.contents g.W.Push.failed g.W.Push.stalled ⊤ _ _ _ _ c.apply.new.held _ others.1 _ _ c.from_residual-in_err-apply.result
          c.from_residual-in_err-apply.ensures.1
          (holds_more g.W.Push.contents g.W.Push.failed g.W.Push.stalled _ _ _ _ others.1
          (holds_more g.W.Push.contents g.W.Push.failed g.W.Push.stalled _ _ _ _ applied.text.0 so_far.1))
          applied.text.2,
    )

pub returns-in_default : goal.returns-in_default
returns-in_default g c =
    let so_far = c.loop-rest.invariant.passed in (
      Some c.loop-rest.number,
      so_far.0,
      broken c.args.engine.now.state c.loop-rest.engine.state c.args.script.now c.loop-rest.rest.now c.loop-rest.number
          so_far.0 so_far.2 (λ e. grind (arith, nat_tests, e, c.is_empty.ensures, c.loop-rest-test.true))
          (subst (λ o. IsFirstRecord c.loop-rest.rest.now (option_map (with_rest record_view) o)) c.in_default.is c.in_ok-next.ensures),
      refl,
      so_far.1,
    )

pub returns : goal.returns
returns g c =
    let so_far = c.loop-rest.invariant.passed in (
      None,
      so_far.0,
      done c.args.engine.now.state c.loop-rest.engine.state c.args.script.now c.loop-rest.rest.now c.loop-rest.number
          so_far.0 so_far.2
          (nil_from_length c.loop-rest.rest.now (eqb-true (length c.loop-rest.rest.now) 0 (sym c.is_empty.ensures ∙ c.loop-rest-test.false))),
      refl,
      so_far.1,
    )

-- Each record writes one text.
use Rattle.std.proofs.Common.{append-nil, arith, [], ◌++◌, refl, ap, ◌∙◌, subst, sym}
use Rattle.std.proofs.lemmas.Bool.Decides.{nat_tests}
use Rattle.std.specs.List.{flat_map}
use Rattle.gix_attributes.specs.EngineStates.{EngineContent}
use Rattle.gix_attributes.specs.KeptLists.{dropped_lines}
use Rattle.gix_attributes.specs.EngineView.{addition_view}
use Rattle.check_attr.specs.ScriptText.{IsRecordText, dropped_text}
use Rattle.check_attr.specs.inner.Pieces.{Passes}
use Rattle.check_attr.specs.inner.ScriptViews.{record_view}
use Rattle.check_attr.proofs.PieceLemmas.{holds_all, refused_record}
use Rattle.check_attr.proofs.script_run.apply.Goals as goal

pub returns-in_ok-add-in-Add-clause-text : goal.returns-in_ok-add-in-Add-clause-text
returns-in_ok-add-in-Add-clause-text g c =
    let a = addition_view c.in-Add.addition in
    let text = flat_map (dropped_text a.source) (dropped_lines a.buffer) in (
      text,
      subst (λ r. IsRecordText c.args.engine.now.state (record_view r) text) (sym c.in-Add.is) refl,
      subst
          (λ lines. Passes g.W.Push.contents g.W.Push.failed g.W.Push.stalled c.args.writer.now c.pass_dropped.new.writer
          c.pass_dropped.new.held (c.args.held.now ++ flat_map (dropped_text a.source) lines) c.pass_dropped.result)
          (c.dropped.ensures ∙ ap (λ (held : EngineContent). held.dropped) c.in_ok-add-in-Add.ensures.added) c.pass_dropped.ensures,
    )

pub returns-in_err-add-in-Add-clause-text : goal.returns-in_err-add-in-Add-clause-text
returns-in_err-add-in-Add-clause-text g c =
    refused_record g.W.Push.contents g.W.Push.failed g.W.Push.stalled _ _ _ _ c.from_residual.result
    c.from_residual.ensures.1

pub returns-in-Pop-clause-text : goal.returns-in-Pop-clause-text
returns-in-Pop-clause-text g c = grind (arith, nat_tests, append-nil, holds_all, c.in-Pop.is)

pub returns-in_ok-select-in-Names-clause-text : goal.returns-in_ok-select-in-Names-clause-text
returns-in_ok-select-in-Names-clause-text g c = ([], grind (arith, nat_tests, c.in-Names.is), grind (arith, nat_tests, append-nil, holds_all))

pub returns-in_err-select-in-Names-clause-text : goal.returns-in_err-select-in-Names-clause-text
returns-in_err-select-in-Names-clause-text g c =
    refused_record g.W.Push.contents g.W.Push.failed g.W.Push.stalled _ _ _ _ c.from_residual-in_err-select-in-Names.result
    c.from_residual-in_err-select-in-Names.ensures.1

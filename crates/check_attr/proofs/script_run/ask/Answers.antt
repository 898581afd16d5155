use Rattle.std.proofs.Common.{[]}
use Rattle.std.specs.Prelude.{unwrap_or}
use Rattle.std.specs.List.{flat_map}
use Rattle.check_attr.specs.Script.{ask}
use Rattle.check_attr.specs.ScriptText.{entry_text}
use Rattle.check_attr.specs.inner.ScriptViews.{question_view}
use Rattle.check_attr.proofs.AnswerLemmas.{answer_text_of}
use Rattle.check_attr.proofs.PieceLemmas.{refused_record}
use Rattle.check_attr.proofs.script_run.ask.Goals as goal

pub returns-in_err-ask-clause-text : goal.returns-in_err-ask-clause-text
returns-in_err-ask-clause-text g c =
    refused_record g.W.Push.contents g.W.Push.failed g.W.Push.stalled c.args.engine.now.state
    (ask (question_view c.args.question)) _ _ c.from_residual.result c.from_residual.ensures.1

pub returns-clause-text : goal.returns-clause-text
returns-clause-text g c =
    let q = question_view c.args.question in
    let before = c.args.engine.now in
    let after = c.ask.new.self in (
      flat_map (entry_text q.form after.state.names q.path) (unwrap_or after.answers []),
      answer_text_of q before after c.in_ok-ask.ensures.answers,
      c.pass_answers.ensures,
    )

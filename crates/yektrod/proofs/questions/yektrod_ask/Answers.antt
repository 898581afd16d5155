use Rattle.std.proofs.Common.{ap, ◌∙◌}
use Rattle.std.proofs.Math.Facts.{to_z-of_z}
use Rattle.gix_attributes.specs.EngineStates.{AnswersTo, FindsFor}
use Rattle.yektrod.specs.Passed.{directory_flag}
use Rattle.yektrod.specs.Sourced.{told_content}
use Rattle.yektrod.specs.SourcedContents.{SourcedContent}
use Rattle.yektrod.proofs.AnswerLemmas.{asked}
use Rattle.yektrod.proofs.questions.yektrod_ask.Goals as goal

pub returns-in-Ok-clause-done : goal.returns-in-Ok-clause-done
returns-in-Ok-clause-done c = λ done.
    asked told_content AnswersTo _ c.args.slot.now.handle.held c.engine.result.now c.ask.new.self c.in-Some.question.path.bytes.now _
    c.in-Some.question.case _ c.in-Some.question.is_dir (directory_flag c.args.is_dir) c.in-Ok.ensures.answers c.if-not-slot.false
    c.engine.ensures.value c.in-Some.ensures.1 c.in-Some.ensures.2 (c.in-Some.ensures.3 ∙ ap directory_flag (to_z-of_z c.ranges.is_dir))

pub returns-in-Ok-clause-found : goal.returns-in-Ok-clause-found
returns-in-Ok-clause-found c = λ done.
    asked told_content FindsFor _ c.args.slot.now.handle.held c.engine.result.now c.ask.new.self c.in-Some.question.path.bytes.now _
    c.in-Some.question.case _ c.in-Some.question.is_dir (directory_flag c.args.is_dir) c.in-Ok.ensures.found c.if-not-slot.false
    c.engine.ensures.value c.in-Some.ensures.1 c.in-Some.ensures.2 (c.in-Some.ensures.3 ∙ ap directory_flag (to_z-of_z c.ranges.is_dir))

pub returns-in-Ok-clause-labelled : goal.returns-in-Ok-clause-labelled
returns-in-Ok-clause-labelled c = λ done.
    asked (λ (content : SourcedContent). content.labelled) AnswersTo _ c.args.slot.now.handle.held c.engine.result.now c.ask.new.self
    c.in-Some.question.path.bytes.now _ c.in-Some.question.case _ c.in-Some.question.is_dir (directory_flag c.args.is_dir)
    c.in-Ok.ensures.labelled c.if-not-slot.false c.engine.ensures.value c.in-Some.ensures.1 c.in-Some.ensures.2
    (c.in-Some.ensures.3 ∙ ap directory_flag (to_z-of_z c.ranges.is_dir))

pub returns-in-Ok-clause-found_labelled : goal.returns-in-Ok-clause-found_labelled
returns-in-Ok-clause-found_labelled c = λ done.
    asked (λ (content : SourcedContent). content.labelled) FindsFor _ c.args.slot.now.handle.held c.engine.result.now c.ask.new.self
    c.in-Some.question.path.bytes.now _ c.in-Some.question.case _ c.in-Some.question.is_dir (directory_flag c.args.is_dir)
    c.in-Ok.ensures.found_labelled c.if-not-slot.false c.engine.ensures.value c.in-Some.ensures.1 c.in-Some.ensures.2
    (c.in-Some.ensures.3 ∙ ap directory_flag (to_z-of_z c.ranges.is_dir))

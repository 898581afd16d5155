use Rattle.gix_attributes.specs.EngineStates.{AnswersTo, FindsFor}
use Rattle.yektrod.specs.Sourced.{told_content}
use Rattle.yektrod.specs.SourcedContents.{SourcedContent}
use Rattle.yektrod.proofs.AnswerLemmas.{asked}
use Rattle.yektrod.proofs.rows.yektrod_ask_into.Goals as goal

pub returns-then-count-rows-clause-answers : goal.returns-then-count-rows-clause-answers
returns-then-count-rows-clause-answers c = λ done.
    asked told_content AnswersTo _ c.args.slot.now.handle.held c.engine-held.result.now c.ask.new.self c.in-Some.asked.path.bytes.now _
    c.in-Some.asked.case _ c.in-Some.asked.is_dir _ c.in-Ok.ensures.answers c.if-not-slot.false c.engine-held.ensures.value
    c.in-Some.ensures.1 c.in-Some.ensures.2 c.in-Some.ensures.3

pub returns-then-count-rows-clause-found : goal.returns-then-count-rows-clause-found
returns-then-count-rows-clause-found c = λ done.
    asked told_content FindsFor _ c.args.slot.now.handle.held c.engine-held.result.now c.ask.new.self c.in-Some.asked.path.bytes.now _
    c.in-Some.asked.case _ c.in-Some.asked.is_dir _ c.in-Ok.ensures.found c.if-not-slot.false c.engine-held.ensures.value
    c.in-Some.ensures.1 c.in-Some.ensures.2 c.in-Some.ensures.3

pub returns-clause-answers : goal.returns-clause-answers
returns-clause-answers c = λ done.
    asked told_content AnswersTo _ c.args.slot.now.handle.held c.engine-held.result.now c.ask.new.self c.in-Some.asked.path.bytes.now _
    c.in-Some.asked.case _ c.in-Some.asked.is_dir _ c.in-Ok.ensures.answers c.if-not-slot.false c.engine-held.ensures.value
    c.in-Some.ensures.1 c.in-Some.ensures.2 c.in-Some.ensures.3

pub returns-clause-found : goal.returns-clause-found
returns-clause-found c = λ done.
    asked told_content FindsFor _ c.args.slot.now.handle.held c.engine-held.result.now c.ask.new.self c.in-Some.asked.path.bytes.now _
    c.in-Some.asked.case _ c.in-Some.asked.is_dir _ c.in-Ok.ensures.found c.if-not-slot.false c.engine-held.ensures.value
    c.in-Some.ensures.1 c.in-Some.ensures.2 c.in-Some.ensures.3

pub returns-then-count-rows-clause-labelled : goal.returns-then-count-rows-clause-labelled
returns-then-count-rows-clause-labelled c = λ done.
    asked (λ (content : SourcedContent). content.labelled) AnswersTo _ c.args.slot.now.handle.held c.engine-held.result.now c.ask.new.self
    c.in-Some.asked.path.bytes.now _ c.in-Some.asked.case _ c.in-Some.asked.is_dir _ c.in-Ok.ensures.labelled c.if-not-slot.false
    c.engine-held.ensures.value c.in-Some.ensures.1 c.in-Some.ensures.2 c.in-Some.ensures.3

pub returns-clause-labelled : goal.returns-clause-labelled
returns-clause-labelled c = λ done.
    asked (λ (content : SourcedContent). content.labelled) AnswersTo _ c.args.slot.now.handle.held c.engine-held.result.now c.ask.new.self
    c.in-Some.asked.path.bytes.now _ c.in-Some.asked.case _ c.in-Some.asked.is_dir _ c.in-Ok.ensures.labelled c.if-not-slot.false
    c.engine-held.ensures.value c.in-Some.ensures.1 c.in-Some.ensures.2 c.in-Some.ensures.3

pub returns-then-count-rows-clause-found_labelled : goal.returns-then-count-rows-clause-found_labelled
returns-then-count-rows-clause-found_labelled c = λ done.
    asked (λ (content : SourcedContent). content.labelled) FindsFor _ c.args.slot.now.handle.held c.engine-held.result.now c.ask.new.self
    c.in-Some.asked.path.bytes.now _ c.in-Some.asked.case _ c.in-Some.asked.is_dir _ c.in-Ok.ensures.found_labelled c.if-not-slot.false
    c.engine-held.ensures.value c.in-Some.ensures.1 c.in-Some.ensures.2 c.in-Some.ensures.3

pub returns-clause-found_labelled : goal.returns-clause-found_labelled
returns-clause-found_labelled c = λ done.
    asked (λ (content : SourcedContent). content.labelled) FindsFor _ c.args.slot.now.handle.held c.engine-held.result.now c.ask.new.self
    c.in-Some.asked.path.bytes.now _ c.in-Some.asked.case _ c.in-Some.asked.is_dir _ c.in-Ok.ensures.found_labelled c.if-not-slot.false
    c.engine-held.ensures.value c.in-Some.ensures.1 c.in-Some.ensures.2 c.in-Some.ensures.3

use Rattle.std.proofs.Common.{List, ℕ, OnOk, map, subst}
use Rattle.gix_attributes.specs.EngineStates.{AnswersTo, FindsFor}
use Rattle.gix_attributes.specs.Told.{content_told}
use Rattle.yektrod.specs.Sourced.{source_in, told_content}
use Rattle.yektrod.specs.SourcedContents.{SourcedContent}
use Rattle.yektrod.proofs.SourcedLemmas.{on_ok}
use Rattle.yektrod.proofs.sourced.SourcedEngine.ask.Goals as goal

pub returns-clause-answers : goal.returns-clause-answers
returns-clause-answers c =
    let q = c.args.question in let e = c.self.inside in
    let told : List ℕ → List ℕ = source_in (map (λ source. source.items) e.sources.items) in
    on_ok c.ask.result
    (λ answers. subst (λ (held : SourcedContent).
    AnswersTo q.path.bytes.now q.case q.is_dir (told_content held) (content_told told c.ask.new.self)) c.self.view_is
    (c.sources_only_tell.ensures.answers told q.path.bytes.now q.case q.is_dir e.engine c.ask.new.self answers))
    c.ask.ensures.answers

pub returns-clause-found : goal.returns-clause-found
returns-clause-found c =
    let q = c.args.question in let e = c.self.inside in
    let told : List ℕ → List ℕ = source_in (map (λ source. source.items) e.sources.items) in
    on_ok c.ask.result
    (λ found. subst (λ (held : SourcedContent).
    FindsFor q.path.bytes.now q.case q.is_dir (told_content held) (content_told told c.ask.new.self)) c.self.view_is
    (c.sources_only_tell.ensures.found told q.path.bytes.now q.case q.is_dir e.engine c.ask.new.self found))
    c.ask.ensures.found

pub returns-clause-labelled : goal.returns-clause-labelled
returns-clause-labelled c =
    let q = c.args.question in
    subst (λ (held : SourcedContent). OnOk c.ask.result (AnswersTo q.path.bytes.now q.case q.is_dir held.labelled c.ask.new.self))
    c.self.view_is c.ask.ensures.answers

pub returns-clause-found_labelled : goal.returns-clause-found_labelled
returns-clause-found_labelled c =
    let q = c.args.question in
    subst (λ (held : SourcedContent). OnOk c.ask.result (FindsFor q.path.bytes.now q.case q.is_dir held.labelled c.ask.new.self))
    c.self.view_is c.ask.ensures.found

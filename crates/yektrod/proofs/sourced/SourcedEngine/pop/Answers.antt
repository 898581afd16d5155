use Rattle.std.proofs.lemmas.Bool.Decides.{nat_tests}
use Rattle.std.proofs.Common.{ap, ◌∙◌, refl, arith, ◌-◌}
use Rattle.std.proofs.lemmas.List.{length-map, length-take-le}
use Rattle.gix_attributes.specs.EngineStates.{without_last}
use Rattle.gix_attributes.specs.Told.{content_told}
use Rattle.yektrod.specs.Sourced.{source_in, told_content}
use Rattle.yektrod.specs.SourcedContents.{SourcedContent}
use Rattle.yektrod.proofs.SourcedLemmas.{count_popped, labels_popped, sources_popped, told_popped}
use Rattle.yektrod.proofs.sourced.SourcedEngine.pop.Goals as goal

pub invariant_of-self-2 : goal.invariant_of-self-2
invariant_of-self-2 c =
    let fact = c.if-not-pop.ensures.popped in
    let fact2 = c.self.inside.sources.ok in
    let fact3 = c.self.invariant.sources in
    grind (arith, nat_tests, labels_popped, count_popped, length-take-le, fact, c.self.invariant.labels, fact2, c.pop-2.ensures.rest, fact3)

pub returns-clause-popped : goal.returns-clause-popped
returns-clause-popped c = λ done.
    let engine = c.self.inside.engine in
    ap (λ sources. content_told (source_in sources) c.pop.new.self)
    (sources_popped (λ source. source.items) c.self.inside.sources.items c.pop-2.new.self.items _
    (omega (arith, c.self.inside.sources.ok)) c.pop-2.ensures.rest)
    ∙ told_popped engine c.pop.new.self _ c.self.invariant.labels (length-map c.self.inside.sources.items _ ∙ c.self.invariant.sources)
    (c.if-not-pop.ensures.popped refl) (λ told. c.sources_only_tell.ensures.popped told engine)
    ∙ ap (λ (held : SourcedContent). without_last (told_content held)) c.self.view_is

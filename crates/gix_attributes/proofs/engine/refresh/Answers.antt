use Rattle.std.proofs.Common.{ap, refl}
use Rattle.std.proofs.lemmas.Result.{on_ok_weaker}
use Rattle.gix_attributes.specs.Contents.{Content, names_selected}
use Rattle.gix_attributes.proofs.AnswerLemmas.{names_stay}
use Rattle.gix_attributes.proofs.engine.refresh.Goals as goal

pub returns-clause-names : goal.returns-clause-names
returns-clause-names c =
    let before = c.args.outcome.now in
    names_stay c.initialize.result c.args.collection.now.names (names_selected before.selection) before c.initialize.new.self
    (on_ok_weaker c.initialize.result (ap (λ (h : Content). h.selection)) c.initialize.ensures.ok) c.initialize.ensures.refused refl

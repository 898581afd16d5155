use Rattle.std.proofs.Common.{ap, ◌∙◌}
use Rattle.std.specs.Prelude.{Some, option_map}
use Rattle.gix_attributes.specs.EngineStates.{EngineContent}
use Rattle.yektrod.specs.Held.{answer_in}
use Rattle.yektrod.specs.Rows.{answer_row}
use Rattle.yektrod.proofs.AnswerLemmas.{none_there, row_there}
use Rattle.yektrod.proofs.answers.row_of.Goals as goal

pub returns-in-Some : goal.returns-in-Some
returns-in-Some c =
    ap Some c.row_of_match.ensures
    ∙ row_there c.args.held.now c.args.i _ (c.in-Some.ensures ∙ ap (λ (l : EngineContent). answer_in l c.args.i) c.labelled.ensures)

pub returns-in-None : goal.returns-in-None
returns-in-None c =
    ap (option_map answer_row)
    (none_there c.args.held.now c.args.i (c.in-None.ensures ∙ ap (λ (l : EngineContent). answer_in l c.args.i) c.labelled.ensures))

use Rattle.yektrod.proofs.AnswerLemmas.{none_is_not, row_is}
use Rattle.yektrod.proofs.rows.row_alone.Goals as goal

pub returns-in-Some : goal.returns-in-Some
returns-in-Some c =
    row_is c.args.held.now c.labelled-engine.result.now c.args.i 0 _ _ _ c.of-in-Some.result c.labelled-engine.ensures c.in-Some.ensures
    c.of.ensures c.number_of.ensures c.of-in-Some.ensures

pub returns-in-None : goal.returns-in-None
returns-in-None c =
    absurd (none_is_not c.args.held.now c.labelled-engine.result.now c.args.i c.labelled-engine.ensures c.in-None.ensures c.requires)

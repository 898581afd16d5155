use Rattle.std.proofs.Common.{◌∙◌, ap, subst, length, List, ℕ}
use Rattle.std.specs.Prelude.{nat_lt, slice_set, if◌then◌else◌}
use Rattle.yektrod.specs.inner.Laid.{IsLaidBehind}
use Rattle.yektrod.specs.declared.row.Row.{Row}
use Rattle.yektrod.proofs.AnswerLemmas.{row_is, text_is}
use Rattle.yektrod.proofs.rows.tell.Goals as goal

pub returns-clause-rows : goal.returns-clause-rows
returns-clause-rows c =
    c.put_row.ensures
    ∙ ap (λ (row : Row). if nat_lt c.args.i (length c.args.rows.now) then slice_set c.args.rows.now c.args.i row else c.args.rows.now)
    (row_is c.args.held.now c.labelled-engine.result.now c.args.i c.args.at _ _ _ c.of-row.result c.labelled-engine.ensures c.in-Some.ensures
    c.of-texts.ensures c.number_of.ensures c.of-row.ensures)

pub returns-clause-text : goal.returns-clause-text
returns-clause-text c =
    subst (λ (text : List ℕ). IsLaidBehind c.args.text.now c.args.at text c.lay.new.buffer c.lay.result)
    (text_is c.args.held.now c.labelled-engine.result.now c.args.i _ _ c.labelled-engine.ensures c.in-Some.ensures c.of-texts.ensures)
    c.lay.ensures

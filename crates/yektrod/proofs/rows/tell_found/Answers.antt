use Rattle.std.proofs.Common.{◌∙◌, ap, subst, List, [], ℕ, Some}
use Rattle.gix_attributes.specs.Matches.{match_view}
use Rattle.gix_attributes.specs.Slots.{Matched}
use Rattle.yektrod.specs.inner.Laid.{IsLaid}
use Rattle.yektrod.specs.RowsTold.{AnswerTexts, full_text, row_with}
use Rattle.yektrod.proofs.AnswerLemmas.{found_is}
use Rattle.yektrod.proofs.LayLemmas.{laid_none}
use Rattle.yektrod.proofs.rows.tell_found.Goals as goal

pub returns-clause-found : goal.returns-clause-found
returns-clause-found c =
    let m : Matched = match_view c.in_ok-found.found in
    found_is c.args.held.now c.labelled.result.now c.args.number m _ c.labelled.ensures c.in_ok-found.ensures (
      c.of-row.ensures ∙ ap (λ (t : AnswerTexts). row_with t (Some c.args.number) 0 m) c.of-texts.ensures,
      subst (λ (text : List ℕ). IsLaid c.args.text.now text c.lay.new.buffer c.lay.result) (ap full_text c.of-texts.ensures)
          (c.lay.ensures c.args.text.now [] (laid_none c.args.text.now)),
    )

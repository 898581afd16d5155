use Rattle.yektrod.proofs.LayLemmas.{laid_both}
use Rattle.yektrod.proofs.row_texts.RowTexts.lay.Goals as goal

pub returns : goal.returns
returns c =
    laid_both _ _ _ _ _ _ _ _
    (laid_both _ _ _ _ _ _ _ _
    (laid_both _ _ _ _ _ _ _ _ (laid_both _ _ _ _ _ _ _ _ c.lay-at.ensures c.lay-at-2.ensures) c.lay-at-3.ensures) c.lay-at-4.ensures)
    c.lay.ensures

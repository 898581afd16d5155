use Rattle.yektrod.proofs.LayLemmas.{laid_both}
use Rattle.yektrod.proofs.row_texts.MarkedText.lay.Goals as goal

pub returns : goal.returns
returns c =
    laid_both _ _ _ _ _ _ _ _
    (laid_both _ _ _ _ _ _ _ _ (laid_both _ _ _ _ _ _ _ _ c.lay_mark-at.ensures c.lay_mark-at-2.ensures) c.lay-at.ensures)
    c.lay_mark.ensures

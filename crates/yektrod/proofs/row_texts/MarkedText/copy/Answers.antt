use Rattle.std.proofs.Common.{arith}
use Rattle.yektrod.proofs.LayLemmas.{laid_alone}
use Rattle.yektrod.proofs.row_texts.MarkedText.copy.Goals as goal

pub returns-clause-done : goal.returns-clause-done
returns-clause-done c = λ done.
    laid_alone _ c.args.to.now c.lay.new.buffer c.lay.result c.lay.ensures (omega (arith, c.len.ensures, c.if-to-needed.false))

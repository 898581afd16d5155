use Rattle.std.proofs.Common.{◌≡◌, drop, take}
use Rattle.yektrod.specs.RowsTold.{laid_rows, rows_alone}
use Rattle.yektrod.proofs.rows.tell_from.Given as goal

-- the rows so far
abbrev pub invariant-loop-i : goal.invariant-loop-i
invariant-loop-i l = l.rows ≡ laid_rows l.fn.rows (take l.i (drop l.from (rows_alone l.held)))

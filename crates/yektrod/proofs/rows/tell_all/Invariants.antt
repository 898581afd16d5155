use Rattle.std.proofs.Common.{◌≡◌, take}
use Rattle.std.specs.Prelude.{flat_map}
use Rattle.yektrod.specs.inner.Laid.{IsLaid}
use Rattle.yektrod.specs.RowsTold.{answers_of, laid_rows, rows_of, text_of}
use Rattle.yektrod.proofs.rows.tell_all.Given as goal

-- the rows so far, and their texts
abbrev pub invariant-loop-i : goal.invariant-loop-i
invariant-loop-i l =
    record {
      rows : l.rows ≡ laid_rows l.fn.rows (take l.i (rows_of l.held));
      text : IsLaid l.fn.text (flat_map (text_of l.held) (take l.i (answers_of l.held))) l.text l.at;
    }

use Rattle.std.proofs.Common.{◌≡◌, ◌<◌, ◌-◌, ◌+◌, List, [], ap, ◌∙◌, sym, arith, length, drop, unwrap_or, length-drop, get_or-drop}
use Rattle.std.proofs.lemmas.List.FromFn.{get_or-map-range_with_len, length-map-range_with_len}
use Rattle.gix_attributes.specs.EngineStates.{EngineContent}
use Rattle.yektrod.specs.RowsTold.{answers_of, row_at, rows_alone}
use Rattle.yektrod.specs.declared.row.Row.{Row}
use Rattle.yektrod.proofs.RowLemmas.{laid_in_room_end, laid_in_room_next, laid_in_room_none}
use Rattle.yektrod.proofs.rows.tell_from.Goals as goal

pub loop-i-init : goal.loop-i-init
loop-i-init c = laid_in_room_none c.args.rows.now (drop c.args.from (rows_alone c.args.held.now))

pub loop-i-preserved : goal.loop-i-preserved
loop-i-preserved c =
    let held = c.args.held.now in let from = c.args.from in let i = c.loop-i.i in
    let all : List Row = rows_alone held in let x : Row = c.row_alone.result in
    let count : c.num_answers.result ≡ length (answers_of held) =
    c.num_answers.ensures ∙ ap (λ (l : EngineContent). length (unwrap_or l.answers [])) c.labelled.ensures in
    let long : length all ≡ length (answers_of held) = length-map-range_with_len (row_at held 0) 0 _ in
    let left : length (drop from all) ≡ length all - from = length-drop from all in
    let in_rows : i < length (drop from all) =
    omega (arith, left, long, count, c.loop-i-test.true, c.min-count.ensures, c.saturating_sub.ensures) in
    let in_room : i < length c.args.rows.now = omega (arith, c.loop-i-test.true, c.min-count.ensures) in
    let inside : from + i < length (answers_of held) = omega (arith, in_rows, left, long) in
    laid_in_room_next c.args.rows.now (drop from all) c.loop-i.rows i x in_rows in_room
    (get_or-drop from all i x ∙ get_or-map-range_with_len (row_at held 0) 0 _ (from + i) (from + i) x inside (omega arith)
    ∙ sym c.row_alone.ensures)
    c.loop-i.invariant

pub returns-clause-rows : goal.returns-clause-rows
returns-clause-rows c =
    let held = c.args.held.now in let from = c.args.from in let all : List Row = rows_alone held in
    let count : c.num_answers.result ≡ length (answers_of held) =
    c.num_answers.ensures ∙ ap (λ (l : EngineContent). length (unwrap_or l.answers [])) c.labelled.ensures in
    let long : length all ≡ length (answers_of held) = length-map-range_with_len (row_at held 0) 0 _ in
    let left : length (drop from all) ≡ length all - from = length-drop from all in
    laid_in_room_end c.args.rows.now (drop from all) c.loop-i.rows c.loop-i.i
    (omega (arith, left, long, count, c.loop-i.auto.i-end, c.min-count.ensures, c.saturating_sub.ensures))
    (omega (arith, left, long, count, c.loop-i-test.false, c.min-count.ensures, c.saturating_sub.ensures)) c.loop-i.invariant

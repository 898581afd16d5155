use Rattle.std.proofs.lemmas.Bool.Decides.{nat_tests}
use Rattle.std.proofs.Common.{◌≡◌, ◌<◌, ℕ, [], ap, ◌∙◌, subst, arith, length, unwrap_or}
use Rattle.std.specs.Prelude.{nat_lt, slice_set, if◌then◌else◌}
use Rattle.std.proofs.lemmas.List.{take_all}
use Rattle.std.proofs.lemmas.List.FromFn.{get_or-map-range_with_len, length-map-range_with_len}
use Rattle.gix_attributes.specs.Contents.{unspecified}
use Rattle.gix_attributes.specs.EngineStates.{EngineContent}
use Rattle.yektrod.specs.inner.Laid.{IsLaid}
use Rattle.yektrod.specs.RowsTold.{answers_of, offset_of, row_at, rows_of, text_of}
use Rattle.yektrod.proofs.AnswerLemmas.{texts_more}
use Rattle.yektrod.proofs.LayLemmas.{laid_none}
use Rattle.yektrod.proofs.RowLemmas.{laid_in_room_all, laid_in_room_none, laid_in_room_step}
use Rattle.yektrod.proofs.rows.tell_all.Goals as goal

pub loop-i-init : goal.loop-i-init
loop-i-init c = record { rows = laid_in_room_none c.args.rows.now (rows_of c.args.held.now); text = laid_none c.args.text.now }

pub loop-i-preserved : goal.loop-i-preserved
loop-i-preserved c =
    let held = c.args.held.now in let i = c.loop-i.i in let rows = rows_of held in
    let count : c.num_answers-i-end.result ≡ length (answers_of held) =
    c.num_answers-i-end.ensures ∙ ap (λ (l : EngineContent). length (unwrap_or l.answers [])) c.labelled.ensures in
    let inside : i < length (answers_of held) = omega (arith, c.loop-i-test.true, count) in
    let long : length rows ≡ length (answers_of held) = length-map-range_with_len (λ i. row_at held (offset_of held i) i) 0 _ in
    let x = row_at held (offset_of held i) i in
    record {
      rows =
          laid_in_room_step c.args.rows.now rows c.loop-i.rows c.tell-at.new.rows i x (omega (arith, inside, long))
          (get_or-map-range_with_len (λ i. row_at held (offset_of held i) i) 0 _ i i x inside (omega arith))
          (subst (λ (at : ℕ). c.tell-at.new.rows
          ≡ (if nat_lt i (length c.loop-i.rows) then slice_set c.loop-i.rows i (row_at held at i) else c.loop-i.rows))
          c.loop-i.invariant.text.counted c.tell-at.ensures.rows)
          c.loop-i.invariant.rows;
      text =
          subst (λ text. IsLaid c.args.text.now text c.tell-at.new.text c.tell-at.result)
          (texts_more (text_of held) (answers_of held) i (unspecified []) inside)
          (c.tell-at.ensures.text c.args.text.now _ c.loop-i.invariant.text);
    }

pub returns-clause-rows : goal.returns-clause-rows
returns-clause-rows c =
    let fact = c.num_answers-i-end.ensures in
    let fact2 = c.loop-i.invariant.rows in
    grind (arith, nat_tests, unwrap_or, length-map-range_with_len, laid_in_room_all, fact, c.labelled.ensures, c.loop-i-test.false, fact2)

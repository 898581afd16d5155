use Rattle.std.proofs.Common.{◌<◌, ◌+◌, ℕ, Bool, true, arith, length, refl, sym, ap, ◌∙◌, take}
use Rattle.std.specs.Prelude.{slice_get, slice_index}
use Rattle.std.proofs.lemmas.Bool.Decides.{nat_tests}
use Rattle.std.proofs.lemmas.List.{get_or_read_under, length-map, take_more}
use Rattle.attr_keys.specs.inner.Cases.{keys_seen, seen_text}
use Rattle.attr_keys.specs.shared.Codes.{codes_of}
use Rattle.attr_keys.specs.shared.Meeting.{directed, text_has}
use Rattle.attr_keys.proofs.RowLemmas.{more_failed, more_passed}
use Rattle.attr_keys.proofs.SeenTexts.{codes_in_case}
use Rattle.attr_keys.proofs.prefixes.Prefixes.append_few.Goals as goal
use Rattle.attr_keys.proofs.prefixes.Prefixes.append_few.Goals.{then-is_had+in_ok-push, else-is_had}

pub is_had-requires-clause-text_first : goal.is_had-requires-clause-text_first
is_had-requires-clause-text_first g c =
    let view = c.args.keys.view in
    let text = directed view.from_end c.args.text.now in
    ◌∙◌ {b = slice_index (codes_of view.fold text true) 0} c.first_code-text_first.ensures
    (ap (λ l. slice_index l 0) (sym (codes_in_case view.fold text true)))

pub loop-index-preserved : goal.loop-index-preserved
loop-index-preserved g c = λ row.
    let test : ℕ → Bool = λ r. text_has (seen_text c.args.keys.view c.args.text.now) (slice_get (keys_seen g.K.Keyed.content c.args.keys) r) in
    let rows = c.args.self.now.rows.items in
    let index = c.loop-index.index in
    let old = c.args.found.now.items in
    let found = c.loop-index.found.items in
    let x = slice_index rows index in
    let new = c.if-is_had.found.items in
    let before = c.loop-index.invariant row in
    let within : index < length rows = grind (arith, nat_tests, length-map, c.loop-index-test.true, c.len-index-end.ensures, c.requires) in
    let more = take_more rows index 0 within in
    elim c.if-is_had.branch [
      | then-is_had+in_ok-push w ↦
          let read = get_or_read_under rows index (length rows) w.index.result.now 0 w.index.ensures within refl in
          more_passed test old found new (take index rows) (take (index + 1) rows) x row more
          (grind (arith, w.found-is, w.in_ok-push.ensures.items, read))
          (sym {b = test x} c.is_had.ensures ∙ w.if-is_had.true) before
      | else-is_had w ↦
          more_failed test old found new (take index rows) (take (index + 1) rows) x row more (grind (arith, w.found-is))
          (sym {b = test x} c.is_had.ensures ∙ w.if-is_had.false) before
    ]

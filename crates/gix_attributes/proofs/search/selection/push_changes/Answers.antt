use Rattle.std.proofs.Common.{arith, ◌≤◌, ◌<◌, ◌++◌, ◌∷◌, [], ap, append_assoc, length, map, subst, sym, ◌∙◌}
use Rattle.std.proofs.lemmas.Bool.Decides.{nat_tests}
use Rattle.std.proofs.lemmas.List.{map-append}
use Rattle.std.proofs.lemmas.List.Elements.{All-push}
use Rattle.attr_search.specs.declared.bodies.BodyChange.{BodyChange}
use Rattle.gix_attributes.specs.inner.BodiesMade.{AreMade}
use Rattle.gix_attributes.proofs.SelectionLemmas.{made_by_change, made_by_same, same_past}
use Rattle.gix_attributes.proofs.search.selection.push_changes.Goals as goal

pub loop-number-preserved-in_ok-push : goal.loop-number-preserved-in_ok-push
loop-number-preserved-in_ok-push c =
    let known = c.args.collection.now in
    let own = c.in-Some.number.now in
    let changes = c.loop-number.changes.items in
    let seen = map (λ n. n.now) c.loop-number.yielded in
    let more = map-append (λ n. n.now) c.loop-number.yielded (c.in-Some.number ∷ []) in
    let within : own < length known.names = grind (arith, c.if-number-len.true, c.len.ensures.count) in
    let change : BodyChange = record { number = own; body = c.in_ok-share_definition.field-0 } in
    record {
      split = grind (arith, nat_tests, append_assoc, c.loop-number.invariant.split, c.in-Some.ensures.steps);
      numbers = λ below. rw c.in_ok-push.ensures.items (All-push (λ (b : BodyChange). b.number < length known.names) changes change
          (c.loop-number.invariant.numbers below) within);
      made = λ bodies done made. subst (λ l. AreMade known bodies l c.push.new.self.items)
          (append_assoc done seen (own ∷ []) ∙ ap (λ l. done ++ l) (sym more))
          (made_by_change known bodies (done ++ seen) changes c.push.new.self.items change c.in_ok-push.ensures.items within
          c.in_ok-share_definition.ensures (c.loop-number.invariant.made bodies done made));
    }

pub loop-number-preserved : goal.loop-number-preserved
loop-number-preserved c =
    let known = c.args.collection.now in
    let own = c.in-Some.number.now in
    let changes = c.loop-number.changes.items in
    let seen = map (λ n. n.now) c.loop-number.yielded in
    let more = map-append (λ n. n.now) c.loop-number.yielded (c.in-Some.number ∷ []) in
    let past : length known.names ≤ own = grind (arith, c.if-number-len.false, c.len.ensures.count) in
    record {
      split = grind (arith, nat_tests, append_assoc, c.loop-number.invariant.split, c.in-Some.ensures.steps);
      numbers = c.loop-number.invariant.numbers;
      made = λ bodies done made. subst (λ l. AreMade known bodies l changes)
          (append_assoc done seen (own ∷ []) ∙ ap (λ l. done ++ l) (sym more))
          (made_by_same known bodies (done ++ seen) changes own (same_past known bodies own past) (c.loop-number.invariant.made bodies done made));
    }

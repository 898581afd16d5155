use Rattle.std.proofs.Common.{ℕ, get_or, ap}
use Rattle.attr_lists.specs.KeptLists.{tracked}
use Rattle.attr_lists.specs.declared.types.TrackedAssignment.{TrackedAssignment}
use Rattle.attr_lists.proofs.ListLemmas.{front-more}
use Rattle.attr_lists.proofs.parser.forget_ids.Goals as goal

pub loop-item-preserved : goal.loop-item-preserved
loop-item-preserved c =
    let old = get_or c.loop-item.items c.loop-item.item-index c.item-item.result in
    let with_id : ℕ → TrackedAssignment = λ n. record { id = record { 0 = n }; inner = old.inner } in
    front-more (λ (item : TrackedAssignment). tracked item.inner) c.loop-item.item-index c.args.items.now c.loop-item.items
    (with_id c.default-item.result.0) c.item-item.result c.loop-item-test.true (ap with_id c.default-item.ensures) c.loop-item.invariant

use Rattle.std.proofs.Common.{[], ◌∷◌, get_or, refl}
use Rattle.attr_lists.proofs.NameLemmas.{inserted_after}
use Rattle.attr_lists.proofs.NumberLemmas.{item_step}
use Rattle.attr_lists.proofs.name_table.numbers.number_items.Goals as goal

pub loop-item-preserved : goal.loop-item-preserved
loop-item-preserved c =
    let inserted = c.in_ok-number_item.ensures.inserted.ok in
    let step = item_step c.args.names.now c.args.items.now c.loop-item.names c.number_item.new.names c.loop-item.items c.loop-item.item-index
    c.item-item.result c.number_item.new.item _ c.loop-item-test.true c.loop-item.invariant.numbered refl inserted
    c.in_ok-number_item.ensures.numbered c.loop-item.invariant.inserted in
    record {
      inserted = step.0;
      numbered = step.1;
      extends = inserted_after c.args.names.now c.loop-item.names c.number_item.new.names
          ((get_or c.loop-item.items c.loop-item.item-index c.item-item.result).inner.name ∷ []) c.loop-item.invariant.extends inserted;
    }

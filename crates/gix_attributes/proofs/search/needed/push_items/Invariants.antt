use Rattle.std.proofs.Common.{◌≡◌, ◌++◌, map, take}
use Rattle.gix_attributes.specs.inner.Needed.{body_item}
use Rattle.gix_attributes.proofs.search.needed.push_items.Given as goal

abbrev pub invariant-loop-item : goal.invariant-loop-item
invariant-loop-item l =
    l.items.items ≡ l.initial.items.items ++ map (body_item l.owner) (take l.item-index l.body)

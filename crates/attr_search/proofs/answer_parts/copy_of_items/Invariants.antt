use Rattle.std.proofs.Common.{◌≡◌, take}
use Rattle.attr_search.proofs.answer_parts.copy_of_items.Given as goal

abbrev pub invariant-loop-item : goal.invariant-loop-item
invariant-loop-item l = l.copy.items ≡ (take l.item-index l.items)

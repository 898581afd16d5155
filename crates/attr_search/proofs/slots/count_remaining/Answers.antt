use Rattle.std.proofs.Common.{arith}
use Rattle.attr_search.proofs.SlotLemmas.{count_left_more}
use Rattle.attr_search.proofs.slots.count_remaining.Goals as goal
use Rattle.attr_search.proofs.slots.count_remaining.Goals.{then-is_remaining, else-is_remaining}

pub loop-number-preserved : goal.loop-number-preserved
loop-number-preserved c = grind (arith, count_left_more, then-is_remaining, else-is_remaining)

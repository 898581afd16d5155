use Rattle.std.proofs.Common.{arith}
use Rattle.attr_search.proofs.SlotLemmas.{left_seen}
use Rattle.attr_search.proofs.slots.AnswerSlots.remaining.Goals as goal

pub returns : goal.returns
returns c = grind (arith, left_seen, c.self.invariant.counted)

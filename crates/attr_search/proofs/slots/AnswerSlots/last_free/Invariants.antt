use Rattle.std.proofs.Common.{◌≤◌, drop, take}
use Rattle.attr_search.specs.shared.SlotContents.{open_slots}
use Rattle.attr_search.specs.inner.Pending.{AreFilled}
use Rattle.attr_search.proofs.slots.AnswerSlots.last_free.Given as goal

abbrev pub invariant-loop-index : goal.invariant-loop-index
invariant-loop-index l = record {
  within : l.index ≤ l.few;
  filled : AreFilled (open_slots l.self) (drop l.index (take l.few l.items));
}

abbrev pub decreases-loop-index : goal.decreases-loop-index
decreases-loop-index l = l.index

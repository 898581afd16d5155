use Rattle.std.proofs.Common.{◌≡◌, ◌≤◌, take}
use Rattle.attr_search.specs.shared.SlotContents.{count_remaining}
use Rattle.attr_search.proofs.slots.count_remaining.Given as goal

abbrev pub invariant-loop-number : goal.invariant-loop-number
invariant-loop-number l = record {
  counted : l.remaining ≡ count_remaining (take l.number l.wanted) (take l.number l.slots);
  small : l.remaining ≤
      l.number;
}

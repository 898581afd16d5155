use Rattle.std.specs.Vec.{vec_capacity}
use Rattle.std.proofs.Common.{◌≡◌, Bool, List, length, drop}
use Rattle.attr_search.specs.inner.SlotsView.{AllAreNeeded, AreOpen}
use Rattle.attr_search.proofs.SlotLemmas.{OthersEmpty}
use Rattle.attr_search.proofs.slots.empty.Given as goal

abbrev pub invariant-loop-number : goal.invariant-loop-number
invariant-loop-number l = record {
  same_length : length l.slots.items ≡ length l.initial.slots.items;
  others : OthersEmpty l.slots.items (drop l.number-index l.numbers);
  slots_room : vec_capacity l.slots ≡ vec_capacity l.initial.slots;
  flags_room : vec_capacity l.is_open ≡ vec_capacity l.initial.is_open;
  flags : length l.is_open.items ≡ length l.slots.items;
  opened : (needed : List Bool) → AreOpen needed l.initial.slots.items l.initial.is_open.items → AllAreNeeded needed l.numbers →
      AreOpen needed l.slots.items l.is_open.items;
}

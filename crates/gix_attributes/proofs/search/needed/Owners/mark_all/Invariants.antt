use Rattle.std.proofs.Common.{All, ◌≡◌, ℕ, ◌+◌, length}
use Rattle.gix_attributes.specs.inner.Needed.{AreClosedBut, IsClosedOver, IsFlagSet, SetsOnly, count_unset}
use Rattle.gix_attributes.proofs.search.needed.Owners.mark_all.Given as goal

abbrev pub invariant-loop-attribute : goal.invariant-loop-attribute
invariant-loop-attribute l = record {
  count : length l.flags ≡ length l.initial.flags;
  kept : (a : ℕ) → IsFlagSet l.initial.flags a → IsFlagSet l.flags a;
  stacked : All (IsFlagSet l.flags) l.stack.items;
  closed : AreClosedBut l.stack.items l.flags l.self.items.items;
  only : SetsOnly l.initial.flags l.flags (IsClosedOver l.self.items.items);
}

-- each attribute leaves the stack once, and is pushed as its flag is set
abbrev pub decreases-loop-attribute : goal.decreases-loop-attribute
decreases-loop-attribute l = length l.stack.items + count_unset l.flags

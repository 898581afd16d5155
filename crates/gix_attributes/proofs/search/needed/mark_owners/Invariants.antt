use Rattle.std.proofs.Common.{take}
use Rattle.gix_attributes.specs.inner.Needed.{AreOwnersSet, HasOwners, IsMarked, SetsOnly}
use Rattle.gix_attributes.proofs.search.needed.mark_owners.Given as goal

abbrev pub invariant-loop-item : goal.invariant-loop-item
invariant-loop-item l = record {
  marked : IsMarked l.initial.flags l.initial.stack.items l.flags l.stack.items;
  set : AreOwnersSet l.flags (take l.item-index l.items);
  only : SetsOnly l.initial.flags l.flags (HasOwners l.items);
}

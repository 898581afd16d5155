use Rattle.std.proofs.Common.{map, take}
use Rattle.attr_lists.specs.inner.EntrySteps.{RemovesListed}
use Rattle.attr_lists.specs.inner.EntryViews.{AreAllInOrder}
use Rattle.attr_lists.specs.inner.Registered.{numbered_body}
use Rattle.attr_lists.proofs.name_table.entry.remove_list.Given as goal

abbrev pub invariant-loop-known : goal.invariant-loop-known
invariant-loop-known l = record {
  order : AreAllInOrder l.entries;
  removed : RemovesListed l.list_id (map numbered_body (take l.known-index l.list)) l.initial.entries l.entries;
}

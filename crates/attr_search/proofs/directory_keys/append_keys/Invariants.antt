use Rattle.std.proofs.Common.{◌≤◌}
use Rattle.attr_search.specs.inner.DirectoryKeys.{HasKeysBelow}
use Rattle.attr_search.specs.inner.FrontHashers.{HasFront}
use Rattle.attr_search.proofs.directory_keys.append_keys.Given as goal

abbrev pub invariant-loop-offset : goal.invariant-loop-offset
invariant-loop-offset l = record {
  read : l.front.read ≤ l.offset;
  front : HasFront l.text l.front;
  has : HasKeysBelow l.text l.offset l.keys.items;
}

use Rattle.std.proofs.Common.{◌≡◌, take}
use Rattle.gix_attributes.specs.inner.Needed.{numbers_of}
use Rattle.gix_attributes.proofs.search.selection.numbers.Given as goal

abbrev pub invariant-loop-wanted : goal.invariant-loop-wanted
invariant-loop-wanted l = l.numbers.items ≡ numbers_of (take l.wanted-index l.selected)

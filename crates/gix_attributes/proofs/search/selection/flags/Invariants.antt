use Rattle.std.proofs.Common.{take, length, ◌==◌}
use Rattle.gix_attributes.proofs.SelectionLemmas.{AreFlags}
use Rattle.gix_attributes.proofs.search.selection.flags.Given as goal

abbrev pub invariant-loop-wanted : goal.invariant-loop-wanted
invariant-loop-wanted l = AreFlags l.flags l.count (length l.selected == 0) (take l.wanted-index l.selected)

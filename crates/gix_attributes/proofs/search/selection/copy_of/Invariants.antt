use Rattle.std.proofs.Common.{◌≡◌, take}
use Rattle.gix_attributes.specs.Selection.{selection_view}
use Rattle.gix_attributes.proofs.search.selection.copy_of.Given as goal

abbrev pub invariant-loop-wanted : goal.invariant-loop-wanted
invariant-loop-wanted l = selection_view l.copy.items ≡ selection_view (take l.wanted-index l.selected)

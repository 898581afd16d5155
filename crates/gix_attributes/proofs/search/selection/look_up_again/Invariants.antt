use Rattle.std.proofs.Common.{◌≡◌, take}
use Rattle.gix_attributes.specs.Contents.{looked_up, names_selected}
use Rattle.gix_attributes.specs.Selection.{selection_view}
use Rattle.gix_attributes.proofs.search.selection.look_up_again.Given as goal

abbrev pub invariant-loop-wanted : goal.invariant-loop-wanted
invariant-loop-wanted l = selection_view l.again.items ≡ looked_up l.collection.names
    (names_selected (selection_view (take l.wanted-index l.selected)))

use Rattle.std.proofs.Common.{◌≡◌, take, map}
use Rattle.gix_attributes.specs.Contents.{looked_up}
use Rattle.gix_attributes.specs.Selection.{selection_view}
use Rattle.gix_attributes.proofs.search.selection.look_up.Given as goal

abbrev pub invariant-loop-name : goal.invariant-loop-name
invariant-loop-name l = selection_view l.selected.items ≡ looked_up l.collection.names (map (λ name. name.now) (take l.name-index l.names))

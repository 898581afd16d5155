use Rattle.std.proofs.Common.{◌≡◌, take}
use Rattle.gix_attributes.specs.Contents.{bodies_of}
use Rattle.attr_search.specs.shared.Slotted.{bodies_view}
use Rattle.gix_attributes.proofs.search.selection.are_bodies_of.Given as goal

abbrev pub invariant-loop-number : goal.invariant-loop-number
invariant-loop-number l = take l.number (bodies_view l.bodies) ≡ take l.number (bodies_of l.collection)

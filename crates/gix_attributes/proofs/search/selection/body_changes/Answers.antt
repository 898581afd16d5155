use Rattle.std.proofs.Common.{[], subst, sym}
use Rattle.attr_search.specs.shared.Slotted.{bodies_view}
use Rattle.gix_attributes.specs.inner.BodiesMade.{AreMade}
use Rattle.gix_attributes.proofs.SelectionLemmas.{made_all, made_first}
use Rattle.gix_attributes.proofs.search.selection.body_changes.Goals as goal

pub returns-clause-made : goal.returns-clause-made
returns-clause-made c =
    let known = c.args.collection.now in
    let bodies = bodies_view c.args.bodies.now in
    let first = subst (AreMade known bodies []) (sym c.new-changes.ensures.items) (made_first known bodies) in
    made_all known bodies c.args.macros.now c.macros.result.now c.push_changes-2.new.changes.items c.requires
    c.macros.ensures
    (c.in_ok-push_changes-2.ensures.made bodies _ (c.in_ok-push_changes.ensures.made bodies [] first))

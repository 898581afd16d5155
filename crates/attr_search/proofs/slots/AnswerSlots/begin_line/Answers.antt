use Rattle.std.proofs.Common.{arith, refl}
use Rattle.std.proofs.lemmas.List.{length-append, length-map}
use Rattle.attr_search.specs.inner.PartsView.{origin_of_line, parts_view}
use Rattle.attr_search.specs.inner.SlotsView.{kept_parts}
use Rattle.attr_search.proofs.PartLemmas.{grows_pushed, grows_same, last_pushed}
use Rattle.attr_search.proofs.SlotLemmas.{matches_stay}
use Rattle.attr_search.proofs.slots.AnswerSlots.begin_line.Goals as goal

pub returns-clause-begun : goal.returns-clause-begun
returns-clause-begun c =
    let before = c.self.inside.lines.items in
    let lines = c.push.new.self.items in
    let grows = grows_pushed origin_of_line before lines _ c.in_ok-push.ensures.items in
    let stay = matches_stay (kept_parts c.self.inside) (parts_view lines c.self.inside.items.items c.self.inside.bodies.items)
    c.self.inside.slots.items (record { lines = grows; items = grows_same _; bodies = refl }) c.self.invariant.within in
    grind (arith, last_pushed, length-append)

pub returns-clause-bodies : goal.returns-clause-bodies
returns-clause-bodies c = grind (arith, length-map, c.self.invariant.bodies)

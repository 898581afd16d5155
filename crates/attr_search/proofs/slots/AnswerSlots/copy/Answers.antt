use Rattle.std.proofs.Common.{◌≡◌, ◌∙◌, arith, refl}
use Rattle.std.proofs.lemmas.Bool.Decides.{nat_tests}
use Rattle.std.proofs.lemmas.List.{length-map}
use Rattle.attr_search.specs.inner.PartsView.{origins}
use Rattle.attr_search.specs.inner.SlotsView.{slots_view}
use Rattle.attr_search.specs.shared.Slotted.{bodies_view}
use Rattle.attr_search.specs.declared.slots.AnswerSlots.TheInside.{Inside}
use Rattle.attr_search.proofs.BodyLemmas.{shared_alike}
use Rattle.attr_search.proofs.slots.AnswerSlots.copy.Goals as goal

pub invariant_of-result : goal.invariant_of-result
invariant_of-result c =
    let bodies = shared_alike _ (λ x y h. grind arith) _ _ c.in_ok-bodies.ensures.cases.0 in grind (arith, nat_tests, length-map, bodies)

-- copies of what is kept are seen alike
seen_alike : (a b : Inside) → b.slots.items ≡ a.slots.items → b.filled.items ≡ a.filled.items → origins b.lines.items ≡ origins a.lines.items →
    b.items.items ≡ a.items.items → bodies_view b.bodies.items ≡ bodies_view a.bodies.items → b.filled_before ≡ a.filled_before →
    b.tested ≡ a.tested → slots_view b ≡ record (slots_view a) { wanted = b.wanted; needed = b.needed }
seen_alike a b slots filled lines items bodies before tested = grind (arith, length-map)

pub returns : goal.returns
returns c =
    let copy : Inside = record c.self.inside {
      slots = c.in_ok-slots.slots;
      filled = c.in_ok-filled.filled;
      wanted = c.args.wanted;
      needed = c.args.needed;
      is_open = c.in_ok-is_open.is_open;
      is_wanted = c.in_ok-is_wanted.is_wanted;
      remaining = c.count_remaining-remaining.result;
      lines = c.in_ok-lines.lines;
      items = c.in_ok-items.items;
      bodies = c.in_ok-bodies.bodies;
    } in
    rw (← c.self.view_is) (seen_alike c.self.inside copy (c.in_ok-slots.ensures.items ∙ c.deref-2.ensures.value)
    (c.in_ok-filled.ensures.items ∙ c.deref-3.ensures.value) (rw c.deref-4.ensures.value at c.in_ok-lines.ensures)
    (rw c.deref-5.ensures.value at c.in_ok-items.ensures) (shared_alike _ (λ x y h. grind arith) _ _ c.in_ok-bodies.ensures.cases.0) refl refl)

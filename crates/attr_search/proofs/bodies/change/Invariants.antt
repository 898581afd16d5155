use Rattle.std.proofs.Common.{◌≡◌, ◌<◌, All, length}
use Rattle.std.specs.Vec.Iter.{into_iter_items}
use Rattle.attr_search.specs.shared.BodyChanges.{changed_bodies}
use Rattle.attr_search.specs.shared.Slotted.{bodies_view}
use Rattle.attr_search.proofs.bodies.change.Given as goal

abbrev pub invariant-loop-change : goal.invariant-loop-change
invariant-loop-change l = record {
  can : (goal.iterator-loop-change).can_next l.change-iterator;
  finite : (goal.iterator-loop-change).is_finite l.change-iterator;
  below : All (λ change. change.number < length l.bodies.items) (into_iter_items l.change-iterator);
  left : changed_bodies (into_iter_items l.change-iterator) (bodies_view l.bodies.items)
      ≡ changed_bodies (into_iter_items l.initial.change-iterator) (bodies_view l.initial.bodies.items);
}

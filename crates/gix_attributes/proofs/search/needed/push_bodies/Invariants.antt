use Rattle.std.proofs.Common.{◌≡◌, ◌++◌, map}
use Rattle.attr_search.specs.shared.Slotted.{bodies_view}
use Rattle.gix_attributes.specs.inner.Needed.{items_with}
use Rattle.gix_attributes.proofs.search.needed.push_bodies.Given as goal

abbrev pub invariant-loop-number : goal.invariant-loop-number
invariant-loop-number l = record {
  split : l.macros.keys ≡ map (λ n. n.now) l.yielded ++ l.number-iterator;
  items : l.items.items ≡ l.initial.items.items ++ items_with (bodies_view l.bodies) (map (λ n. n.now) l.yielded);
}

use Rattle.std.proofs.Common.{◌≡◌, ◌++◌, ◌-◌, ◌<◌, [], replicate, take}
use Rattle.attr_search.specs.shared.Slotted.{bodies_view}
use Rattle.attr_search.proofs.bodies.resize.Given as goal

abbrev pub invariant-loop : goal.invariant-loop
invariant-loop l = record {
  grown : bodies_view l.bodies.items ≡ bodies_view l.initial.bodies.items ++ replicate (l.counter - l.before) [];
  few : l.count < l.before → l.counter ≡ l.before;
  kept : take l.before l.bodies.items ≡ l.initial.bodies.items;
}

use Rattle.std.proofs.Common.{◌≡◌, ◌<◌, ◌++◌, ℕ, List, All, length, map}
use Rattle.attr_lists.specs.declared.types.TrackedAssignment.{TrackedAssignment}
use Rattle.gix_attributes.specs.inner.BodiesMade.{AreMade}
use Rattle.gix_attributes.proofs.search.selection.push_changes.Given as goal

abbrev pub invariant-loop-number : goal.invariant-loop-number
invariant-loop-number l = record {
  split : l.numbers.keys ≡ map (λ n. n.now) l.yielded ++ l.number-iterator;
  numbers : All (λ change. change.number < length l.collection.names) l.initial.changes.items →
      All (λ change. change.number < length l.collection.names) l.changes.items;
  made : (bodies : List (List TrackedAssignment)) (done : List ℕ) → AreMade l.collection bodies done l.initial.changes.items →
      AreMade l.collection bodies (done ++ map (λ n. n.now) l.yielded) l.changes.items;
}

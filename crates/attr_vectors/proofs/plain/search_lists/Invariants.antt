use Rattle.std.proofs.Common.{◌≡◌, [], drop, length}
use Rattle.attr_table.specs.shared.Walk.{tasks_of, Searches}
use Rattle.attr_vectors.specs.inner.Plain.{IsSearchState, KeepsInput, plain_answers, plain_bodies, plain_lists}
use Rattle.attr_vectors.proofs.plain.search_lists.Given as goal

abbrev pub invariant-loop-k : goal.invariant-loop-k
invariant-loop-k l = record {
  state : IsSearchState (length l.slots) l.state;
  input : KeepsInput l.initial.state l.state;
  empty : l.state.stack.items ≡ [];
  searched : Searches (plain_bodies l.initial.state.bodies.now) l.initial.state.wanted.now (tasks_of (plain_lists (drop l.k l.lists)))
      (plain_answers l.initial.slots) (plain_answers l.slots) 0 l.state.taken;
}

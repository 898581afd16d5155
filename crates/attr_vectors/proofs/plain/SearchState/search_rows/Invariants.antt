use Rattle.std.proofs.Common.{◌≡◌, [], drop, length}
use Rattle.attr_table.specs.shared.Walk.{list_tasks, Searches}
use Rattle.attr_vectors.specs.inner.Plain.{IsSearchState, KeepsInput, plain_answers, plain_bodies, plain_lines}
use Rattle.attr_vectors.proofs.plain.SearchState.search_rows.Given as goal

abbrev pub invariant-loop-k : goal.invariant-loop-k
invariant-loop-k l = record {
  state : IsSearchState (length l.slots) l.self;
  input : KeepsInput l.initial.self l.self;
  empty : l.self.stack.items ≡ [];
  searched : Searches (plain_bodies l.initial.self.bodies.now) l.initial.self.wanted.now (list_tasks (plain_lines (drop l.k l.rows)))
      (plain_answers l.initial.slots) (plain_answers l.slots) l.initial.self.taken l.self.taken;
}

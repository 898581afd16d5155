use Rattle.std.proofs.Common.{ℕ, length}
use Rattle.attr_table.specs.Table.{Slots}
use Rattle.attr_table.specs.shared.Walk.{Searches}
use Rattle.attr_vectors.specs.inner.Plain.{IsSearchState, KeepsInput, plain_answers, plain_bodies, plain_tasks, remaining_work}
use Rattle.attr_vectors.proofs.plain.SearchState.run_stack.Given as goal

abbrev pub invariant-loop-self : goal.invariant-loop-self
invariant-loop-self l = record {
  state : IsSearchState (length l.slots) l.self;
  input : KeepsInput l.initial.self l.self;
  searched : (final : Slots) (after : ℕ) →
      Searches (plain_bodies l.initial.self.bodies.now) l.initial.self.wanted.now (plain_tasks l.self.stack.items) (plain_answers l.slots)
      final l.self.taken after →
      Searches (plain_bodies l.initial.self.bodies.now) l.initial.self.wanted.now (plain_tasks l.initial.self.stack.items)
      (plain_answers l.initial.slots) final l.initial.self.taken after;
}

abbrev pub decreases-loop-self : goal.decreases-loop-self
decreases-loop-self l = remaining_work l.self l.slots

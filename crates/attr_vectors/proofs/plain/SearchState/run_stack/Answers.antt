use Rattle.std.proofs.Common.{◌≡◌, ◌∙◌, List, [], ◌∷◌, sym, refl, ap, length, length-append, arith, rules}
use Rattle.attr_vectors.specs.inner.Plain.{plain_answers, plain_bodies, plain_tasks}
use Rattle.attr_table.proofs.ForCallers.{nothing_taken, done_taken}
use Rattle.attr_vectors.proofs.Seen.{plain_tasks-none, plain_tasks-top, slots_top, no_tasks, searches_before, searches_after}
use Rattle.attr_vectors.proofs.plain.SearchState.run_stack.Goals as goal

empty_is : {X : Type 0} (xs : List X) → length xs ≡ 0 → xs ≡ []
empty_is [] e = refl
empty_is (x ∷ xs) e = absurd (omega arith)

pub process-requires-clause-state : goal.process-requires-clause-state
process-requires-clause-state c =
    let state = c.loop-self.invariant.state in
    record {
      bodies = state.bodies;
      in_bodies = state.in_bodies;
      in_wanted = state.in_wanted;
      in_stack = slots_top (length c.loop-self.slots) c.loop-self.self.stack.items c.pop.new.self.items c.in-Some.task c.in-Some.ensures.items
          state.in_stack;
    }

pub loop-self-preserved : goal.loop-self-preserved
loop-self-preserved c =
    let task = c.in_ok-process.ensures in
    record {
      state = task.state;
      input = record {
        bodies = task.input.bodies ∙ c.loop-self.invariant.input.bodies;
        wanted = task.input.wanted ∙ c.loop-self.invariant.input.wanted;
      };
      searched = λ final after p.
          let top = plain_tasks-top c.loop-self.self.stack.items c.pop.new.self.items c.in-Some.task c.in-Some.ensures.items in
          c.loop-self.invariant.searched final after
          (searches_before c.args.self.now c.loop-self.self c.loop-self.invariant.input
          (rw top (task.step final c.loop-self.self.taken after (sym c.loop-self-test.ensures) c.saturating_add-self.ensures
          (searches_after c.args.self.now c.loop-self.self c.loop-self.invariant.input p))));
    }

pub returns-in_default : goal.returns-in_default
returns-in_default c =
    let s = c.args.self.now in
    let x = c.in_default.ensures.cases in
    let none = plain_tasks-none c.loop-self.self.stack.items (omega arith) in
    let empty : c.pop.new.self.items ≡ [] =
    empty_is c.pop.new.self.items (omega (arith, ap length c.in_default.ensures.items, length-append c.pop.new.self.items [])) in
    let state = c.loop-self.invariant.state in
    record {
      state = record {
        bodies = state.bodies;
        in_bodies = state.in_bodies;
        in_wanted = state.in_wanted;
        in_stack = no_tasks (length c.loop-self.slots) c.pop.new.self.items empty;
      };
      input = record { bodies = c.loop-self.invariant.input.bodies; wanted = c.loop-self.invariant.input.wanted };
      empty = empty;
      searched = c.loop-self.invariant.searched (plain_answers c.loop-self.slots) c.loop-self.self.taken
          (rw none (nothing_taken (plain_bodies s.bodies.now) s.wanted.now (plain_answers c.loop-self.slots) c.loop-self.self.taken));
    }

pub returns : goal.returns
returns c =
    let state = c.loop-self.invariant.state in
    record {
      state = record {
        bodies = state.bodies;
        in_bodies = state.in_bodies;
        in_wanted = state.in_wanted;
        in_stack = no_tasks (length c.loop-self.slots) _ (search rules);
      };
      input = record { bodies = c.loop-self.invariant.input.bodies; wanted = c.loop-self.invariant.input.wanted };
      empty = search rules;
      searched = c.loop-self.invariant.searched (plain_answers c.loop-self.slots) c.loop-self.self.taken
          (searches_before c.args.self.now c.loop-self.self c.loop-self.invariant.input
          (done_taken (plain_bodies c.loop-self.self.bodies.now) c.loop-self.self.wanted.now (plain_tasks c.loop-self.self.stack.items)
          (plain_answers c.loop-self.slots) c.loop-self.self.taken (sym c.loop-self-test.ensures)));
    }

use Rattle.std.proofs.Common.{◌∙◌, refl, length, arith}
use Rattle.attr_table.specs.shared.Walk.{list_tasks}
use Rattle.attr_vectors.specs.inner.Plain.{plain_answers, plain_bodies, plain_lines}
use Rattle.attr_table.proofs.ForCallers.{nothing_taken}
use Rattle.attr_vectors.proofs.Backwards.{backwards-none, more_searched}
use Rattle.attr_vectors.proofs.Seen.{no_tasks, searches_before}
use Rattle.attr_vectors.proofs.plain.search_lists.Goals as goal

pub loop-k-init : goal.loop-k-init
loop-k-init c = record {
  state = record {
    bodies = c.requires.bodies;
    in_bodies = c.requires.in_bodies;
    in_wanted = c.requires.in_wanted;
    in_stack = no_tasks (length c.args.slots.now) c.new.result.items c.new.ensures.items;
  };
  input = record { bodies = refl; wanted = refl };
  empty = c.new.ensures.items;
  searched =
      rw (backwards-none list_tasks (λ rows. plain_lines rows.now) c.args.lists.now)
      (nothing_taken (plain_bodies c.args.bodies.now) c.args.wanted.now (plain_answers c.args.slots.now) 0);
}

pub loop-k-preserved : goal.loop-k-preserved
loop-k-preserved c =
    let rows = c.in_ok-search_rows.ensures in
    record {
      state = rows.state;
      input = record {
        bodies = rows.input.bodies ∙ c.loop-k.invariant.input.bodies;
        wanted = rows.input.wanted ∙ c.loop-k.invariant.input.wanted;
      };
      empty = rows.empty;
      searched =
          more_searched (plain_bodies c.args.bodies.now) c.args.wanted.now list_tasks (λ rows. plain_lines rows.now) c.args.lists.now c.loop-k.k _
          (plain_answers c.args.slots.now) (plain_answers c.loop-k.slots) (plain_answers c.search_rows.new.slots) 0 c.loop-k.state.taken
          c.search_rows.new.self.taken c.loop-k-test.true (omega arith) c.loop-k.invariant.searched
          (searches_before _ c.loop-k.state c.loop-k.invariant.input rows.searched);
    }

use Rattle.std.proofs.Common.{◌∙◌, refl, sym, drop, take, arith}
use Rattle.attr_table.specs.shared.Walk.{line_tasks, list_tasks}
use Rattle.attr_vectors.specs.inner.Plain.{plain_answers, plain_bodies, plain_line, plain_lines}
use Rattle.attr_table.proofs.ForCallers.{nothing_taken, done_taken, then_searches}
use Rattle.attr_vectors.proofs.Backwards.{backwards-none, backwards-split, more_searched}
use Rattle.attr_vectors.proofs.Seen.{searches_before}
use Rattle.attr_vectors.proofs.plain.SearchState.search_rows.Goals as goal

pub loop-k-init : goal.loop-k-init
loop-k-init c =
    let s = c.args.self.now in
    record {
      state = c.requires.state;
      input = record { bodies = refl; wanted = refl };
      empty = c.requires.empty;
      searched =
          rw (backwards-none line_tasks plain_line c.args.rows.now)
          (nothing_taken (plain_bodies s.bodies.now) s.wanted.now (plain_answers c.args.slots.now) s.taken);
    }

pub returns-then-is_done : goal.returns-then-is_done
returns-then-is_done c =
    let s = c.args.self.now in
    let rest = list_tasks (plain_lines (take c.loop-k.k c.args.rows.now)) in
    record {
      state = c.loop-k.invariant.state;
      input = c.loop-k.invariant.input;
      empty = c.loop-k.invariant.empty;
      searched = rw (backwards-split line_tasks plain_line c.args.rows.now c.loop-k.k)
          (then_searches (plain_bodies s.bodies.now) s.wanted.now
          (list_tasks (plain_lines (drop c.loop-k.k c.args.rows.now))) rest (plain_answers c.args.slots.now)
          (plain_answers c.loop-k.slots) (plain_answers c.loop-k.slots) s.taken c.loop-k.self.taken c.loop-k.self.taken
          c.loop-k.invariant.searched
          (searches_before s c.loop-k.self c.loop-k.invariant.input
          (done_taken (plain_bodies c.loop-k.self.bodies.now) c.loop-k.self.wanted.now rest (plain_answers c.loop-k.slots) c.loop-k.self.taken
          (sym c.if-is_done.ensures))));
    }

pub loop-k-preserved : goal.loop-k-preserved
loop-k-preserved c =
    let s = c.args.self.now in
    let row = c.in_ok-search_row.ensures in
    record {
      state = row.state;
      input = record {
        bodies = row.input.bodies ∙ c.loop-k.invariant.input.bodies;
        wanted = row.input.wanted ∙ c.loop-k.invariant.input.wanted;
      };
      empty = row.empty;
      searched =
          more_searched (plain_bodies s.bodies.now) s.wanted.now line_tasks plain_line c.args.rows.now c.loop-k.k _
          (plain_answers c.args.slots.now) (plain_answers c.loop-k.slots) (plain_answers c.search_row.new.slots) s.taken c.loop-k.self.taken
          c.search_row.new.self.taken c.loop-k-test.true (omega arith) c.loop-k.invariant.searched
          (searches_before s c.loop-k.self c.loop-k.invariant.input row.searched);
    }

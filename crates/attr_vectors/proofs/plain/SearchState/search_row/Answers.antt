use Rattle.std.proofs.Common.{arith, refl, sym}
use Rattle.std.proofs.lemmas.Bool.Decides.{nat_tests}
use Rattle.attr_vectors.specs.inner.Plain.{plain_answers, plain_bodies}
use Rattle.attr_vectors.proofs.Seen.{line_filled, line_unmatched, line_searched}
use Rattle.attr_vectors.proofs.plain.SearchState.search_row.Goals as goal

pub returns-then-not-has_free : goal.returns-then-not-has_free
returns-then-not-has_free c =
    let s = c.args.self.now in
    record {
      state = c.requires.state;
      input = record { bodies = refl; wanted = refl };
      empty = c.requires.empty;
      searched = line_filled (plain_bodies s.bodies.now) s.wanted.now c.args.row.now (plain_answers c.args.slots.now) s.taken
          (sym c.if-not-has_free.ensures);
    }

pub returns-then-not-row : goal.returns-then-not-row
returns-then-not-row c =
    let s = c.args.self.now in
    record {
      state = c.requires.state;
      input = record { bodies = refl; wanted = refl };
      empty = c.requires.empty;
      searched = line_unmatched (plain_bodies s.bodies.now) s.wanted.now c.args.row.now (plain_answers c.args.slots.now) s.taken
          c.if-not-row.true;
    }

pub run_stack-requires : goal.run_stack-requires
run_stack-requires c = grind (arith, nat_tests)

pub returns : goal.returns
returns c =
    let s = c.args.self.now in
    let run = c.in_ok-run_stack.ensures in
    record {
      state = run.state;
      input = record { bodies = run.input.bodies; wanted = run.input.wanted };
      empty = run.empty;
      searched = line_searched (plain_bodies s.bodies.now) s.wanted.now c.args.row.now s.stack.items
          c.push_free.new.stack.items (plain_answers c.args.slots.now) (plain_answers c.run_stack.new.slots) s.taken
          c.run_stack.new.self.taken c.if-not-row.false c.requires.empty c.in_ok-push_free.ensures.pushed run.searched;
    }

use Rattle.std.proofs.Common.{◌∙◌, refl, sym, subst, length, arith, Some}
use Rattle.attr_vectors.specs.inner.Plain.{IsSearchState, plain_answers, plain_bodies, plain_origin, plain_task, plain_tasks}
use Rattle.attr_table.proofs.ForCallers.{left_in-less}
use Rattle.attr_vectors.proofs.FreeTasks.{taken_skip, taken_closed, taken_open, left_in-open}
use Rattle.attr_vectors.proofs.Seen.{filled_at, body_of-seen, length-pushed}
use Rattle.attr_vectors.proofs.plain.SearchState.process.Goals as goal

pub returns-then-is_some : goal.returns-then-is_some
returns-then-is_some c =
    let s = c.args.self.now in
    record {
      state = c.requires.state;
      input = record { bodies = refl; wanted = refl };
      taken = refl;
      less = omega arith;
      step = λ final before after undone counted p.
          taken_skip (plain_bodies s.bodies.now) s.wanted.now (plain_task c.args.task) (plain_tasks s.stack.items)
          (plain_answers c.args.slots.now) final before s.taken after counted
          (filled_at c.args.slots.now c.args.task.item.attribute ∙ sym c.if-is_some.ensures) p;
    }

pub returns-then-not-expands : goal.returns-then-not-expands
returns-then-not-expands c =
    let s = c.args.self.now in
    let less = left_in-less (plain_bodies s.bodies.now) (plain_task c.args.task) (plain_answers c.args.slots.now)
    (plain_answers c.fill.new.slots) c.fill.ensures
    (filled_at c.args.slots.now c.args.task.item.attribute ∙ sym c.if-is_some.ensures) in
    record {
      state = subst (λ n. IsSearchState n s) (sym c.fill.auto.slots) c.requires.state;
      input = record { bodies = refl; wanted = refl };
      taken = refl;
      less = omega arith;
      step = λ final before after undone counted p.
          taken_closed (plain_bodies s.bodies.now) s.wanted.now (plain_task c.args.task) (plain_tasks s.stack.items)
          (plain_answers c.args.slots.now) (plain_answers c.fill.new.slots) final before s.taken after c.fill.ensures
          (sym c.if-not-expands.ensures)
          (filled_at c.args.slots.now c.args.task.item.attribute ∙ sym c.if-is_some.ensures)
          undone counted p;
    }

pub returns : goal.returns
returns c =
    let s = c.args.self.now in
    let filled = filled_at c.args.slots.now c.args.task.item.attribute ∙ sym c.if-is_some.ensures in
    let body = body_of-seen s.bodies.now c.args.task.item.attribute _ (omega (arith, c.requires.state.bodies, c.requires.task)) in
    let kept = subst (λ n. IsSearchState n s) (sym c.fill.auto.slots) c.requires.state in
    record {
      state = record {
        bodies = kept.bodies;
        in_bodies = kept.in_bodies;
        in_wanted = kept.in_wanted;
        in_stack = c.in_ok-push_free.ensures.in_stack _
            (kept.in_bodies c.args.task.item.attribute _ (omega (arith, c.requires.state.bodies, c.requires.task))) kept.in_stack;
      };
      input = record { bodies = refl; wanted = refl };
      taken = refl;
      less = left_in-open (plain_bodies s.bodies.now) (plain_task c.args.task) _ (plain_answers c.args.slots.now)
          (plain_answers c.fill.new.slots) (length s.stack.items) (length c.push_free.new.stack.items) c.fill.ensures filled body
          (length-pushed s.stack.items c.push_free.new.stack.items (plain_answers c.fill.new.slots)
          (plain_origin c.args.task.origin) (Some c.args.task.item.attribute) _ c.in_ok-push_free.ensures.pushed);
      step = λ final before after undone counted p.
          taken_open (plain_bodies s.bodies.now) s.wanted.now (plain_task c.args.task) _ (plain_tasks s.stack.items)
          (plain_tasks c.push_free.new.stack.items) (plain_answers c.args.slots.now) (plain_answers c.fill.new.slots) final before s.taken
          after c.fill.ensures (sym c.if-not-expands.ensures) filled body c.in_ok-push_free.ensures.pushed undone counted p;
    }

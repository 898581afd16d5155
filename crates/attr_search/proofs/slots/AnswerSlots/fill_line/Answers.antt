use Rattle.std.proofs.Common.{◌≡◌, ◌∙◌, ap, arith, get_or, refl, sym}
use Rattle.std.proofs.lemmas.List.{get_or_default}
use Rattle.attr_table.proofs.ForCallers.{done_taken}
use Rattle.attr_search.specs.inner.Filling.{tasks_left}
use Rattle.attr_search.specs.inner.Pending.{items_beside, no_item}
use Rattle.attr_search.specs.inner.Searched.{state_bodies, state_wanted}
use Rattle.attr_search.specs.shared.SlotContents.{open_slots}
use Rattle.attr_search.proofs.FillingLemmas.{at_body, at_item, at_top, ends_line, fewer_filled, fewer_opened, fills_by, fills_kept}
use Rattle.attr_search.proofs.FillingLemmas.{leads_closed, leads_opened, leads_pop, line_done, then_by}
use Rattle.attr_search.proofs.SearchedLemmas.{then_kept}
use Rattle.attr_search.proofs.slots.AnswerSlots.fill_line.Goals as goal

pub returns-in_default-pop : goal.returns-in_default-pop
returns-in_default-pop c =
    let now = c.loop-alloc.self in
    let is = c.items-items.ensures ∙ ap (λ bodies. items_beside c.args.line.items.now bodies c.loop-alloc.at.cause) c.bodies.ensures.bodies in
    let x = c.in_default-pop.ensures.cases in
    let ends = ends_line c.args.line now c.loop-alloc.at c.loop-alloc.stack.items (rw is at c.in_default.ensures) (omega arith) in
    let done = line_done c.args.line c.args.self.now c.begin_line.new.self now _ c.in_ok-begin_line.ensures.begun c.clear.ensures.items
    c.loop-alloc.invariant.kept c.loop-alloc.invariant.by (c.loop-alloc.invariant.filled (open_slots now) now.taken ends) in
    record { kept = done.0; done = done.1 }

pub loop-alloc-preserved-in_default : goal.loop-alloc-preserved-in_default
loop-alloc-preserved-in_default c =
    let is = c.items-items.ensures ∙ ap (λ bodies. items_beside c.args.line.items.now bodies c.loop-alloc.at.cause) c.bodies.ensures.bodies in
    record {
      at_line = at_top c.in-Some-pop.top c.pop.new.self.items c.loop-alloc.invariant.at_line c.in-Some-pop.ensures.items;
      kept = c.loop-alloc.invariant.kept;
      by = c.loop-alloc.invariant.by;
      filled = λ final later p. c.loop-alloc.invariant.filled final later
          (leads_pop c.args.line c.loop-alloc.self c.loop-alloc.at c.in-Some-pop.top c.loop-alloc.stack.items c.pop.new.self.items
          (rw is at c.in_default.ensures) c.in-Some-pop.ensures.items final later p);
    }

pub returns : goal.returns
returns c =
    let now = c.loop-alloc.self in
    let ends = done_taken (state_bodies now) (state_wanted now) (tasks_left c.args.line now c.loop-alloc.at c.loop-alloc.stack.items)
    (open_slots now) now.taken (sym c.loop-alloc-test.ensures) in
    let done = line_done c.args.line c.args.self.now c.begin_line.new.self now _ c.in_ok-begin_line.ensures.begun c.clear.ensures.items
    c.loop-alloc.invariant.kept c.loop-alloc.invariant.by (c.loop-alloc.invariant.filled (open_slots now) now.taken ends) in
    record { kept = done.0; done = done.1 }

pub fill-requires-clause-inside : goal.fill-requires-clause-inside
fill-requires-clause-inside c =
    let is = c.items-items.ensures ∙ ap (λ bodies. items_beside c.args.line.items.now bodies c.loop-alloc.at.cause) c.bodies.ensures.bodies in
    let last = rw is at c.in-Some.ensures in
    omega (arith, last.before, c.loop-alloc.invariant.at_line.within.index)

pub fill-requires-clause-own : goal.fill-requires-clause-own
fill-requires-clause-own c =
    let is = c.items-items.ensures ∙ ap (λ bodies. items_beside c.args.line.items.now bodies c.loop-alloc.at.cause) c.bodies.ensures.bodies in
    let items = items_beside c.args.line.items.now c.loop-alloc.self.bodies c.loop-alloc.at.cause in
    let own : c.index-items-index.result ≡ get_or items c.in-Some.index no_item = grind (arith, is, get_or_default) in
    ap (λ item. item.id.0) own

pub loop-alloc-smaller-in-Some-end_of_body : goal.loop-alloc-smaller-in-Some-end_of_body
loop-alloc-smaller-in-Some-end_of_body c =
    let now = c.loop-alloc.self in
    let is = c.items-items.ensures ∙ ap (λ bodies. items_beside c.args.line.items.now bodies c.loop-alloc.at.cause) c.bodies.ensures.bodies in
    let last = rw is at c.in-Some.ensures in
    let own : c.index-items-index.result ≡ get_or (items_beside c.args.line.items.now now.bodies c.loop-alloc.at.cause) c.in-Some.index no_item =
    grind (arith, is, get_or_default) in
    let kept = fills_kept now c.fill.new.self c.in_ok-fill.ensures.filled in
    let known = c.bodies-in-loop-alloc.ensures.bodies ∙ kept.bodies in
    rw c.in_ok-push.ensures.items
    (fewer_opened now _ c.loop-alloc.at c.in-Some-end_of_body.body c.loop-alloc.stack.items _ c.in_ok-fill.ensures.filled last.before
    (rw (known, own) at (sym c.in-Some-end_of_body.ensures)))

pub loop-alloc-preserved-in-Some-end_of_body : goal.loop-alloc-preserved-in-Some-end_of_body
loop-alloc-preserved-in-Some-end_of_body c =
    let now = c.loop-alloc.self in
    let at = c.loop-alloc.at in
    let after = c.fill.new.self in
    let inv = c.loop-alloc.invariant in
    let filled = c.in_ok-fill.ensures.filled in
    let is = c.items-items.ensures ∙ ap (λ bodies. items_beside c.args.line.items.now bodies at.cause) c.bodies.ensures.bodies in
    let last = rw is at c.in-Some.ensures in
    let own : c.index-items-index.result ≡ get_or (items_beside c.args.line.items.now now.bodies at.cause) c.in-Some.index no_item =
    grind (arith, is, get_or_default) in
    let kept = fills_kept now after filled in
    rw c.in_ok-push.ensures.items (record {
      at_line = at_body after c.index-items-index.result.id.0 _ (at_item now after inv.at_line filled refl last.before)
          (grind (arith, own, kept.len, filled.within)) (rw c.bodies-in-loop-alloc.ensures.bodies at (sym c.in-Some-end_of_body.ensures));
      kept = then_kept c.begin_line.new.self now after inv.kept kept;
      by = then_by c.begin_line.new.self now after inv.kept inv.by (fills_by now after filled);
      filled = λ final later p. inv.filled final later
          (leads_opened now after at c.in-Some-end_of_body.body c.loop-alloc.stack.items filled inv.at_line.within refl last
          (sym c.loop-alloc-test.ensures) (rw (c.bodies-in-loop-alloc.ensures.bodies ∙ kept.bodies, c.is_set-is_expanded.ensures, own) at
          (sym c.in-Some-end_of_body.ensures)) final later p);
    })

pub loop-alloc-smaller : goal.loop-alloc-smaller
loop-alloc-smaller c =
    let is = c.items-items.ensures ∙ ap (λ bodies. items_beside c.args.line.items.now bodies c.loop-alloc.at.cause) c.bodies.ensures.bodies in
    let last = rw is at c.in-Some.ensures in
    fewer_filled c.loop-alloc.self c.fill.new.self c.loop-alloc.at c.loop-alloc.stack.items c.in_ok-fill.ensures.filled last.before

pub loop-alloc-preserved : goal.loop-alloc-preserved
loop-alloc-preserved c =
    let now = c.loop-alloc.self in
    let at = c.loop-alloc.at in
    let after = c.fill.new.self in
    let inv = c.loop-alloc.invariant in
    let filled = c.in_ok-fill.ensures.filled in
    let is = c.items-items.ensures ∙ ap (λ bodies. items_beside c.args.line.items.now bodies at.cause) c.bodies.ensures.bodies in
    let last = rw is at c.in-Some.ensures in
    let own : c.index-items-index.result ≡ get_or (items_beside c.args.line.items.now now.bodies at.cause) c.in-Some.index no_item =
    grind (arith, is, get_or_default) in
    let kept = fills_kept now after filled in
    record {
      at_line = at_item now after inv.at_line filled refl last.before;
      kept = then_kept c.begin_line.new.self now after inv.kept kept;
      by = then_by c.begin_line.new.self now after inv.kept inv.by (fills_by now after filled);
      filled = λ final later p. inv.filled final later
          (leads_closed now after at c.loop-alloc.stack.items filled inv.at_line.within refl last (sym c.loop-alloc-test.ensures)
          (rw (c.bodies-in-loop-alloc.ensures.bodies ∙ kept.bodies, c.is_set-is_expanded.ensures, own) at (sym c.in_default-end_of_body.ensures))
          final later p);
    }

use Rattle.std.specs.Result.{result_map_both}
use Rattle.attr_text.specs.Items.{checked_name, with_state}
use Rattle.attr_text.specs.TextViews.{state_view}
use Rattle.attr_lists.specs.KeptLists.{reason_of, tracked}
use Rattle.attr_lists.specs.Numbers.{numbered_item}
use Rattle.attr_lists.specs.inner.LineSteps.{item_name}
use Rattle.attr_lists.proofs.NameLemmas.{not_read, was_read}
use Rattle.attr_lists.proofs.ReadingLemmas.{item_more, items_append, items_over, items_refused, reads_append}
use Rattle.attr_lists.proofs.parser.read_items.Goals as goal

pub loop-name-preserved : goal.loop-name-preserved
loop-name-preserved c =
    item_more c.args.items c.loop-name.items c.next_parts.new.self (with_state (checked_name c.in-Some.name.now) (state_view c.in-Some.state))
    c.args.names.now c.loop-name.names c.read_item.new.names c.loop-name.assignments.items c.push.new.self.items c.in-Ok.assignment
    c.in_ok-assignment.field-0 c.loop-name.invariant c.in-Some.ensures.some c.in_ok-assignment.ensures.ok c.in-Ok.is c.in_ok-push-in-Ok.ensures.ok

pub returns-in_err-assignment : goal.returns-in_err-assignment
returns-in_err-assignment c =
    not_read c.from_residual.result _ c.args.names.now c.read_item.new.names c.from_residual.ensures.0
    (items_append c.args.items c.loop-name.items c.args.names.now c.loop-name.names c.read_item.new.names c.loop-name.assignments.items
    c.loop-name.invariant c.in_err-assignment.ensures.err)

pub returns-in_err-push-in-Ok : goal.returns-in_err-push-in-Ok
returns-in_err-push-in-Ok c =
    let one = with_state (checked_name c.in-Some.name.now) (state_view c.in-Some.state) in
    not_read c.from_residual-in_err-push-in-Ok.result _ c.args.names.now c.read_item.new.names c.from_residual-in_err-push-in-Ok.ensures.0
    (items_append c.args.items c.loop-name.items c.args.names.now c.loop-name.names c.read_item.new.names c.loop-name.assignments.items
    c.loop-name.invariant
    (reads_append item_name numbered_item (result_map_both tracked reason_of one) c.loop-name.names c.read_item.new.names c.in_ok-assignment.field-0
    c.in_ok-assignment.ensures.ok))

pub returns-in-Err : goal.returns-in-Err
returns-in-Err c =
    was_read _ _ c.args.names.now c.read_item.new.names
    (items_refused c.args.items c.loop-name.items c.next_parts.new.self (with_state (checked_name c.in-Some.name.now) (state_view c.in-Some.state))
    c.args.names.now c.loop-name.names c.read_item.new.names c.loop-name.assignments.items c.in-Err.reason c.in_ok-assignment.field-0
    c.loop-name.invariant c.in-Some.ensures.some c.in_ok-assignment.ensures.ok c.in-Err.is)

pub returns : goal.returns
returns c =
    was_read _ _ c.args.names.now c.loop-name.names
    (items_over c.args.items c.loop-name.items c.args.names.now c.loop-name.names c.loop-name.assignments.items c.loop-name.invariant
    c.in_default.ensures.none.0)

use Rattle.std.proofs.Common.{◌∙◌, subst}
use Rattle.attr_text.specs.TextViews.{state_view}
use Rattle.attr_lists.specs.inner.NameSteps.{IsItemNumber}
use Rattle.attr_lists.proofs.NameLemmas.{not_read, was_read, with_name-extends}
use Rattle.attr_lists.proofs.ReadingLemmas.{item_read}
use Rattle.attr_lists.proofs.parser.read_item.Goals as goal

pub returns-in_err-state-in-Ok : goal.returns-in_err-state-in-Ok
returns-in_err-state-in-Ok c =
    let old = c.args.names.now in
    let is = subst (IsItemNumber c.args.name.now old c.number_item.new.self) c.in-Ok.is c.in_ok-number.ensures.ok in
    let more = with_name-extends old c.args.name.now in
    not_read c.from_residual-in_err-state-in-Ok.result _ old c.state.new.self c.from_residual-in_err-state-in-Ok.ensures.0
    (more.0, c.in_err-state-in-Ok.ensures.same ∙ is.1 ∙ more.1)

pub returns-in_ok-state-in-Ok : goal.returns-in_ok-state-in-Ok
returns-in_ok-state-in-Ok c =
    let mid = c.number_item.new.self in
    let state = c.in_ok-state-in-Ok in
    was_read _ _ c.args.names.now c.state.new.self
    (item_read c.args.name.now c.in_ok-share-in-Ok.field-0 (state_view c.args.state) state.field-0 c.in-Ok.number c.args.names.now mid
    c.state.new.self (subst (IsItemNumber c.args.name.now c.args.names.now mid) c.in-Ok.is c.in_ok-number.ensures.ok) c.in_ok-share-in-Ok.ensures
    state.ensures.state state.ensures.same)

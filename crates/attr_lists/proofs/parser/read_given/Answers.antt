use Rattle.std.proofs.Common.{◌≡◌, ◌∙◌, sym, arith}
use Rattle.attr_lists.specs.KeptLists.{items_read}
use Rattle.attr_lists.specs.LineViews.{target_view}
use Rattle.attr_lists.specs.ListViews.{items_in, macro_id}
use Rattle.attr_lists.specs.inner.LineSteps.{item_names, numbered_items, target_names}
use Rattle.attr_glob.specs.Views.{pattern_view}
use Rattle.attr_lists.proofs.NameLemmas.{not_read, was_read}
use Rattle.attr_lists.proofs.ReadingLemmas.{appended_after, given_read, items_by, reads_append}
use Rattle.attr_lists.proofs.parser.read_given.Goals as goal
use Rattle.attr_lists.proofs.parser.read_given.Goals.{in-Some, in-None}

pub returns-in_err-pattern_of-in-Ok : goal.returns-in_err-pattern_of-in-Ok
returns-in_err-pattern_of-in-Ok c =
    let target = target_view c.args.kind in
    let old = c.args.names.now in
    let new = c.read_items.new.names in
    let mid = c.number_macro.new.names in
    not_read c.from_residual-in_err-pattern_of-in-Ok.result _ old new c.from_residual-in_err-pattern_of-in-Ok.ensures.0
    (appended_after old mid new (target_names target) c.in_ok-id.ensures.inserted.ok
    (reads_append item_names numbered_items (items_read c.args.items) mid new _ c.in_ok-assignments.ensures.ok))

pub returns-after-id : goal.returns-after-id
returns-after-id c =
    let value = c.match-id.result in
    let id : macro_id value ≡ c.in_ok-id.id = elim c.match-id.branch [ in-Some w ↦ grind arith | in-None w ↦ grind arith ] in
    let items : items_in value ≡ c.in-Ok.assignments.items = elim c.match-id.branch [ in-Some w ↦ grind arith | in-None w ↦ grind arith ] in
    was_read _ _ c.args.names.now c.read_items.new.names
    (given_read (target_view c.args.kind) c.args.line (items_read c.args.items) c.args.names.now c.number_macro.new.names c.read_items.new.names
    (pattern_view c.in_ok-pattern_of-in-Ok.field-0) (macro_id value) (items_in value) _
    c.in_ok-id.ensures.inserted.ok (id ∙ c.in_ok-id.ensures.id) c.in_ok-pattern_of-in-Ok.ensures c.in_ok-assignments.ensures.ok
    (items_by c.in_ok-assignments.field-0 c.in-Ok.assignments (items_in value) c.in-Ok.is (λ a. a.items) (sym items)))

use Rattle.std.proofs.Common.{◌≡◌, ◌∙◌, ap, arith, length}
use Rattle.std.proofs.lemmas.List.{with_items_is}
use Rattle.attr_lists.specs.ListViews.{entries_view}
use Rattle.attr_lists.proofs.ForCallers.{lines_numbered_by}
use Rattle.list_rows.proofs.numbers.Numbering.add.Goals as goal

pub register-requires : goal.register-requires
register-requires c =
    let list = c.in_ok-list.list in
    let kept : length c.number.new.mappings ≡ list.len =
    omega (arith, c.number.auto.mappings, c.deref_mut-2.ensures.len, ap length c.deref_mut-2.ensures.value) in
    let lines = ap entries_view (c.deref-2.ensures.value ∙ with_items_is list c.number.new.mappings kept) in
    record { numbered = rw (lines, c.deref_mut-3.ensures.value) (lines_numbered_by _ _ _ _ c.in_ok-number.ensures.numbered) }

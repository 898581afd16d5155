use Rattle.std.proofs.Common.{ap, subst, sym}
use Rattle.attr_lists.specs.declared.types.Metadata.{Metadata}
use Rattle.attr_lists.proofs.EntryLemmas.{RemovesAt, order_at, order_kept, removed_nothing, removed_one, removed_step}
use Rattle.attr_lists.proofs.name_table.entry.remove_list.Goals as goal
use Rattle.attr_lists.proofs.name_table.entry.remove_list.Goals.{then-number-entries, else-number-entries}

pub remove-requires : goal.remove-requires
remove-requires c =
    order_at c.loop-known.entries _ c.index-entries-number.result c.if-number-entries.true c.loop-known.invariant.order

pub loop-known-preserved : goal.loop-known-preserved
loop-known-preserved c =
    let old = c.loop-known.entries in
    let at = c.deref.result.now.id.0 in
    let removed : RemovesAt c.args.list_id at old c.if-number-entries.entries = elim c.if-number-entries.branch [
      | then-number-entries w ↦
          subst (RemovesAt c.args.list_id at old) (sym w.entries-is)
          (removed_one c.args.list_id at old w.index-entries-number.result w.remove.new.self w.if-number-entries.true w.remove.ensures)
      | else-number-entries w ↦
          subst (RemovesAt c.args.list_id at old) (sym w.entries-is) (removed_nothing c.args.list_id at old w.if-number-entries.false)
    ] in
    record {
      order = order_kept c.args.list_id at old _ removed c.loop-known.invariant.order;
      removed = removed_step c.args.list_id at old _ removed c.args.entries.now c.args.list.now c.loop-known.known-index c.known-item.result
          c.loop-known-test.true c.known-item.is (ap (λ (m : Metadata). m.id.0) c.deref.ensures) c.loop-known.invariant.removed;
    }

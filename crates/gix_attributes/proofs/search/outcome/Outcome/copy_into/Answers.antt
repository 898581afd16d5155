use Rattle.std.proofs.lemmas.Bool.Decides.{nat_tests}
use Rattle.std.proofs.Common.{arith}
use Rattle.std.proofs.lemmas.List.{length-replicate}
use Rattle.attr_search.proofs.ForCallers.{all_among}
use Rattle.gix_attributes.proofs.OutcomeLemmas.{length_flags, selected_below}
use Rattle.gix_attributes.proofs.SelectionLemmas.{copied_elsewhere}
use Rattle.gix_attributes.proofs.search.outcome.Outcome.copy_into.Goals as goal

pub flags-requires : goal.flags-requires
flags-requires c =
    rw (c.deref-2.ensures.value, c.len.ensures.count) (selected_below c.in_ok-selected.selected.items c.args.collection.now.names _
    c.in_ok-selected.ensures)

pub copy-requires : goal.copy-requires
copy-requires c = record {
  wanted = grind (arith, nat_tests, length_flags);
  needed = grind (arith, nat_tests, length-replicate);
  among = rw c.all_or_none-needed.ensures (all_among _ _ (grind (arith, nat_tests, length_flags)));
  more = rw c.all_or_none-needed.ensures (all_among _ _ (grind (arith, nat_tests, length_flags)));
}

pub invariant_of-dest : goal.invariant_of-dest
invariant_of-dest c = grind (arith, nat_tests, copied_elsewhere)

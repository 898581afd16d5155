use Rattle.std.proofs.lemmas.Bool.Decides.{nat_tests}
use Rattle.std.proofs.Common.{arith}
use Rattle.std.proofs.lemmas.List.{take_all}
use Rattle.gix_attributes.proofs.NeededLemmas.{marked_then, owners_more}
use Rattle.gix_attributes.proofs.search.needed.mark_owners.Goals as goal

pub loop-item-preserved : goal.loop-item-preserved
loop-item-preserved c = record {
  marked = marked_then _ _ _ _ _ _ c.loop-item.invariant.marked c.in_ok-mark.ensures.marked;
  set = owners_more c.args.items.now c.loop-item.item-index (record { attribute = 0; owner = 0 }) _ _ c.loop-item-test.true
      c.in_ok-mark.ensures.marked.set c.loop-item.invariant.set c.in_ok-mark.ensures.set;
  only = λ has held owners. c.in_ok-mark.ensures.only has (c.loop-item.invariant.only has held owners)
      (owners c.loop-item.item-index (record { attribute = 0; owner = 0 }) c.loop-item-test.true);
}

pub returns-clause-set : goal.returns-clause-set
returns-clause-set c = grind (arith, nat_tests, take_all, c.loop-item.invariant.set)

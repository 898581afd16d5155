use Rattle.std.proofs.Common.{arith, refl, subst, sym}
use Rattle.std.specs.List.Sorted.{IsNonDecreasingBy}
use Rattle.attr_lists.proofs.EntryLemmas.{in_order, removed_from}
use Rattle.attr_lists.proofs.name_table.entry.NameEntry.remove.Goals as goal

pub run_of-start-requires : goal.run_of-start-requires
run_of-start-requires c =
    subst (IsNonDecreasingBy (λ d. d.list_id)) (sym c.deref.ensures.value) (in_order c.args.self.now.definitions.items c.requires)

pub returns : goal.returns
returns c = removed_from c.args.list_id c.args.self.now _ refl (grind arith)

use Rattle.attr_lists.proofs.NameSetLemmas.{name_set_empty}
use Rattle.attr_lists.proofs.name_table.name_set.NameSet.new.Goals as goal

pub invariant_of-result : goal.invariant_of-result
invariant_of-result c = name_set_empty _ c.new.ensures.items c.new-2.ensures.empty

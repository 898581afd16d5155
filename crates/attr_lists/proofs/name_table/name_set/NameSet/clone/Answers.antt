use Rattle.std.proofs.Common.{◌∙◌}
use Rattle.attr_lists.proofs.NameSetLemmas.{name_set_copied, texts_copied}
use Rattle.attr_lists.proofs.name_table.name_set.NameSet.clone.Goals as goal

pub invariant_of-result : goal.invariant_of-result
invariant_of-result c = name_set_copied c.self.inside _ c.self.invariant c.in_ok-clone.ensures.cases.0 c.in_ok-clone-2.ensures.cases

pub returns : goal.returns
returns c = texts_copied _ _ c.in_ok-clone.ensures.cases.0 ∙ c.self.view_is

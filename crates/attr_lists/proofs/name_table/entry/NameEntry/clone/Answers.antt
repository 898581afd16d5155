use Rattle.std.proofs.Common.{◌∙◌, ap}
use Rattle.attr_lists.proofs.EntryLemmas.{definitions_copied, ids_copied}
use Rattle.attr_lists.proofs.name_table.entry.NameEntry.clone.Goals as goal

pub returns-clause-definitions : goal.returns-clause-definitions
returns-clause-definitions c = definitions_copied _ _ c.in_ok-clone-2.ensures.cases.0

pub returns-clause-entry : goal.returns-clause-entry
returns-clause-entry c = λ number is. record {
  id = ap (λ i. i.0) c.in_ok-clone.ensures.id ∙ is.id;
  empty = c.in_ok-clone.ensures.body ∙ is.empty;
  ids = ids_copied number _ _ c.in_ok-clone-2.ensures.cases.0 is.ids;
}

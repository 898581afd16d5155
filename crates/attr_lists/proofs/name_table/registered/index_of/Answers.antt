use Rattle.std.proofs.Common.{rules}
use Rattle.std.proofs.lemmas.List.Sorted.{answers_always}
use Rattle.attr_lists.specs.declared.name_table.registered.ListMacros.{ListMacros}
use Rattle.attr_lists.proofs.RegisteredLemmas.{searched}
use Rattle.attr_lists.proofs.name_table.registered.index_of.Goals as goal

pub returns : goal.returns
returns c =
    let facts = c.binary_search_by_key.ensures in
    let by_id = facts.position (λ (l : ListMacros). l.list_id) (answers_always _ _ _ (λ f a r g called. search rules)) in
    rw c.ok.ensures.value (searched c.args.lists.now c.args.list_id c.requires _ facts.bound by_id)

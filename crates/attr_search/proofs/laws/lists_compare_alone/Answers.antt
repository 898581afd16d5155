use Rattle.attr_search.proofs.CompareLemmas.{equal_alone, ordered_alone}
use Rattle.attr_search.proofs.laws.lists_compare_alone.Goals as goal

pub returns-clause-equal : goal.returns-clause-equal
returns-clause-equal c = equal_alone (λ list. list.list) _ c.args.one.now.lists.items c.args.other.now.lists.items

pub returns-clause-order : goal.returns-clause-order
returns-clause-order c = ordered_alone (λ list. list.list) _ c.args.one.now.lists.items c.args.other.now.lists.items

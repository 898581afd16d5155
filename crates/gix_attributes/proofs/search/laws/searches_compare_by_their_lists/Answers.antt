use Rattle.attr_search.proofs.ForCallers.{equal_alone, ordered_alone}
use Rattle.gix_attributes.proofs.search.laws.searches_compare_by_their_lists.Goals as goal

pub returns-clause-equal : goal.returns-clause-equal
returns-clause-equal c = equal_alone (λ list. list.list) _ c.args.one.now.patterns.lists.items c.args.other.now.patterns.lists.items

pub returns-clause-order : goal.returns-clause-order
returns-clause-order c = ordered_alone (λ list. list.list) _ c.args.one.now.patterns.lists.items c.args.other.now.patterns.lists.items

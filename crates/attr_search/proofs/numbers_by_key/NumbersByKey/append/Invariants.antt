use Rattle.attr_search.specs.inner.NumbersView.{link_keys}
use Rattle.attr_search.proofs.KeyedLemmas.{CoversDown, count_down}
use Rattle.attr_search.proofs.numbers_by_key.NumbersByKey.append.Given as goal

abbrev pub invariant-loop-next : goal.invariant-loop-next
invariant-loop-next l = CoversDown (link_keys l.self-inside.links.items) l.fn.key l.fn.numbers.items l.numbers.items l.next

abbrev pub decreases-loop-next : goal.decreases-loop-next
decreases-loop-next l = count_down l.next

use Rattle.attr_search.proofs.OpenLemmas.{AreOpenUpTo}
use Rattle.attr_search.proofs.slots.open_ones.Given as goal

abbrev pub invariant-loop-number : goal.invariant-loop-number
invariant-loop-number l = AreOpenUpTo l.needed l.slots l.is_open.items l.number

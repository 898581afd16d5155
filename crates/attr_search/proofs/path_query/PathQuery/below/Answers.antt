use Rattle.attr_wildmatch.proofs.ForCallers.{pair_below}
use Rattle.attr_search.proofs.path_query.PathQuery.below.Goals as goal

pub invariant_of-result-clause-paired : goal.invariant_of-result-clause-paired
invariant_of-result-clause-paired c = λ k h. c.all.ensures k (pair_below k _ h)

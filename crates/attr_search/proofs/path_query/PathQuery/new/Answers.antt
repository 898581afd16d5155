use Rattle.std.proofs.Common.{◌∙◌, ap}
use Rattle.attr_wildmatch.proofs.ForCallers.{pair_below}
use Rattle.attr_glob.specs.BaseNames.{base_name_offset}
use Rattle.attr_search.proofs.path_query.PathQuery.new.Goals as goal

pub invariant_of-result-clause-paired : goal.invariant_of-result-clause-paired
invariant_of-result-clause-paired c = λ k h. c.all.ensures k (pair_below k _ h)

pub invariant_of-result-clause-offset : goal.invariant_of-result-clause-offset
invariant_of-result-clause-offset c = c.base_name_offset-name_offset.ensures ∙ ap base_name_offset c.as_bytes.ensures

use Rattle.std.proofs.Common.{ap}
use Rattle.attr_search.specs.IndexedLists.{lists_view}
use Rattle.gix_attributes.proofs.FileLemmas.{none_held}
use Rattle.gix_attributes.proofs.search.attributes.Search.new.Goals as goal

pub returns-clause-held : goal.returns-clause-held
returns-clause-held c known = none_held known c.new.result.lists.items (ap lists_view c.new.ensures)

use Rattle.std.proofs.Common.{arith}
use Rattle.std.proofs.lemmas.Bool.Decides.{nat_tests}
use Rattle.gix_attributes.proofs.HoldsLemmas.{held_lists, held_views}
use Rattle.gix_attributes.proofs.search.collection.MetadataCollection.holds.Goals as goal

pub returns-clause-held : goal.returns-clause-held
returns-clause-held c = grind (arith, nat_tests, held_views, held_lists, c.lists.ensures, c.are_held.ensures.0, c.are_held.ensures.1)

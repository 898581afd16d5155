use Rattle.std.proofs.Common.{subst}
use Rattle.attr_lists.specs.shared.Keeping.{OthersStayRegistered}
use Rattle.gix_attributes.proofs.search.collection.MetadataCollection.remove.Goals as goal

pub returns-clause-others : goal.returns-clause-others
returns-clause-others c = subst (λ known. OthersStayRegistered c.args.list_id known c.remove.new.self) c.self.view_is c.remove.ensures.others

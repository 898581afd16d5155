use Rattle.std.proofs.Common.{arith, subst}
use Rattle.std.proofs.lemmas.Bool.Decides.{nat_tests}
use Rattle.gix_attributes.specs.inner.HeldLists.{AreHeldLists}
use Rattle.gix_attributes.proofs.HoldsLemmas.{held_less, held_lists, held_views}
use Rattle.gix_attributes.proofs.KeepingLemmas.{keeps_removed, removes_removed}
use Rattle.gix_attributes.proofs.search.attributes.Search.pop_pattern_list.Goals as goal

pub returns-clause-held : goal.returns-clause-held
returns-clause-held c =
    let known = c.args.collection.now in
    held_views c.remove.new.self c.pop.new.self.lists.items (held_less known c.remove.new.self c.pop.new.self.lists.items c.in_ok-last.last
    c.remove.ensures.others
    (subst (AreHeldLists known) c.in_ok-last.ensures.last (held_lists known c.args.self.now.patterns.lists.items c.requires)))

pub returns-clause-kept : goal.returns-clause-kept
returns-clause-kept c =
    keeps_removed c.args.collection.now c.remove.new.self c.args.self.now.patterns.lists.items c.pop.new.self.lists.items c.in_ok-last.last
    c.in_ok-last.ensures.last c.remove.ensures.removed c.remove.ensures.others

pub returns-clause-removed : goal.returns-clause-removed
returns-clause-removed c = grind (arith, nat_tests, removes_removed)

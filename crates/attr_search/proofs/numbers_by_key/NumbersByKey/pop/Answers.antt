use Rattle.std.proofs.Common.{arith, nat_eq}
use Rattle.std.specs.HashMap.{get}
use Rattle.attr_search.proofs.KeyedLemmas.{popped_latest, popped_lead}
use Rattle.attr_search.proofs.numbers_by_key.NumbersByKey.pop.Goals as goal

pub invariant_of-self-in-Ok : goal.invariant_of-self-in-Ok
invariant_of-self-in-Ok c =
    record {
      latest = popped_latest c.self.inside.links.items c.pop.new.self.items c.in-Some.link (get nat_eq c.self.inside.latest)
          (get nat_eq c.insert.new.self) c.in-Some.ensures.items c.self.invariant.latest c.self.invariant.links
          (λ key. grind arith);
      links = popped_lead c.self.inside.links.items c.pop.new.self.items c.in-Some.link c.in-Some.ensures.items c.self.invariant.links;
    }

pub invariant_of-self-in-None : goal.invariant_of-self-in-None
invariant_of-self-in-None c =
    record {
      latest = popped_latest c.self.inside.links.items c.pop.new.self.items c.in-Some.link (get nat_eq c.self.inside.latest)
          (get nat_eq c.remove.new.self) c.in-Some.ensures.items c.self.invariant.latest c.self.invariant.links
          (λ key. grind arith);
      links = popped_lead c.self.inside.links.items c.pop.new.self.items c.in-Some.link c.in-Some.ensures.items c.self.invariant.links;
    }

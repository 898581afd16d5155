use Rattle.std.proofs.Common.{subst, sym, nat_eq, ◌≡◌, ◌∙◌, length}
use Rattle.std.specs.HashMap.{get}
use Rattle.attr_search.specs.inner.NumbersView.{AreLatest, LeadOn}
use Rattle.attr_search.specs.declared.numbers_by_key.Link.{Link}
use Rattle.attr_search.proofs.KeyedLemmas.{pushed_latest, pushed_lead}
use Rattle.attr_search.proofs.numbers_by_key.NumbersByKey.push_reserved.Goals as goal

pub invariant_of-self : goal.invariant_of-self
invariant_of-self c =
    let links = c.self.inside.links.items in
    let link : Link = record { key = c.args.key; earlier = c.in-Ok.earlier } in
    let len : c.len.result ≡ length links = c.len.ensures ∙ c.self.inside.links.ok.0 in
    record {
      latest = subst (λ ls. AreLatest ls (get nat_eq c.insert.new.self)) (sym c.push_reserved.ensures.items)
          (pushed_latest links link (get nat_eq c.self.inside.latest) (get nat_eq c.insert.new.self) c.self.invariant.latest
          (rw len at c.in-Ok.ensures.updates.0));
      links = subst LeadOn (sym c.push_reserved.ensures.items)
          (pushed_lead links link (get nat_eq c.self.inside.latest) c.self.invariant.latest c.in-Ok.ensures.old c.self.invariant.links);
    }

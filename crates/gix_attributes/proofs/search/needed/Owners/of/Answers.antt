use Rattle.std.proofs.Common.{◌≡◌, ◌++◌, ap, subst, ◌∙◌, rules}
use Rattle.std.specs.List.Sorted.{IsPermutation}
use Rattle.std.proofs.lemmas.List.Sorted.{IsNonDecreasingBy-from_sort_by_key}
use Rattle.attr_search.specs.shared.Slotted.{bodies_view}
use Rattle.gix_attributes.specs.inner.Needed.{items_with}
use Rattle.gix_attributes.specs.declared.search.needed.BodyItem.{BodyItem}
use Rattle.gix_attributes.proofs.NeededLemmas.{owners_sorted}
use Rattle.gix_attributes.proofs.search.needed.Owners.of.Goals as goal

pub returns : goal.returns
returns c =
    let bodies = bodies_view c.args.bodies.now in
    let macros = c.args.macros.now in
    let sorted = c.sort_unstable_by_key.new.self.items in
    let pushed : c.push_bodies.new.items.items ≡ items_with bodies macros.keys =
    c.in_ok-push_bodies.ensures ∙ ap (λ l. l ++ items_with bodies macros.keys) c.new-items.ensures.items in
    owners_sorted bodies macros sorted c.requires
    (subst (λ l. IsPermutation l sorted) pushed c.sort_unstable_by_key.ensures.permutation)
    (IsNonDecreasingBy-from_sort_by_key (λ (i : BodyItem). i.attribute) _ c.sort_unstable_by_key.ensures.sorted (λ a r q k. search rules))

use Rattle.std.proofs.Common.{All, Some, ◌<◌, ◌∙◌, length, subst, sym}
use Rattle.std.proofs.lemmas.List.Elements.{All-pop}
use Rattle.gix_attributes.specs.inner.Needed.{IsFlagSet}
use Rattle.gix_attributes.specs.declared.search.needed.BodyItem.{BodyItem}
use Rattle.gix_attributes.proofs.NeededLemmas.{all_within, closed_step, owners_had}
use Rattle.gix_attributes.proofs.search.needed.Owners.mark_all.Goals as goal

pub mark_owners-requires : goal.mark_owners-requires
mark_owners-requires c =
    let items = c.args.self.now.items.items in
    subst (λ n. All (λ (i : BodyItem). i.owner < n) c.items_of.result.now) (sym c.loop-attribute.invariant.count)
    (all_within (λ i. i.owner < length c.args.flags.now) items c.items_of.result.now c.requires.within
    (rw c.deref.ensures.value at c.items_of.ensures.within))

pub loop-attribute-preserved : goal.loop-attribute-preserved
loop-attribute-preserved c =
    let items = c.args.self.now.items.items in
    let part = c.items_of.result.now in
    let popped = All-pop (IsFlagSet c.loop-attribute.flags) c.loop-attribute.stack.items c.pop.new.self.items (Some c.in-Some.attribute)
    c.in-Some.ensures.items c.loop-attribute.invariant.stacked in
    record {
      count = c.in_ok-mark_owners.ensures.marked.count ∙ c.loop-attribute.invariant.count;
      kept = λ a is. c.in_ok-mark_owners.ensures.marked.set a (c.loop-attribute.invariant.kept a is);
      stacked = c.in_ok-mark_owners.ensures.marked.stacked popped.0;
      closed = closed_step items part c.in-Some.attribute c.loop-attribute.flags c.mark_owners.new.flags
          c.loop-attribute.stack.items c.pop.new.self.items c.mark_owners.new.stack.items c.in-Some.ensures.items
          c.loop-attribute.invariant.closed (rw c.deref.ensures.value at c.items_of.ensures.all) c.in_ok-mark_owners.ensures.marked
          c.in_ok-mark_owners.ensures.set;
      only = λ has held closed.
          let before = c.loop-attribute.invariant.only has held closed in
          c.in_ok-mark_owners.ensures.only has before
          (owners_had items part c.in-Some.attribute has closed (rw c.deref.ensures.value at c.items_of.ensures.within)
          c.items_of.ensures.same (before c.in-Some.attribute popped.1));
    }

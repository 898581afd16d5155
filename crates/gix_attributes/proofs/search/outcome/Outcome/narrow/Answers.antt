use Rattle.std.proofs.Common.{arith, ◌≡◌, ◌∙◌, length, map, None, refl, ap, subst}
use Rattle.std.proofs.lemmas.Bool.Decides.{nat_tests}
use Rattle.std.proofs.lemmas.List.{length-map}
use Rattle.attr_search.specs.shared.BodyChanges.{changed_bodies, sized_bodies}
use Rattle.gix_attributes.specs.Contents.{Content}
use Rattle.gix_attributes.specs.inner.Needed.{AreNeeded}
use Rattle.gix_attributes.specs.Selection.{selection_view}
use Rattle.gix_attributes.proofs.SelectionLemmas.{length_bodies}
use Rattle.gix_attributes.proofs.OutcomeLemmas.{changed_within, held_as, held_of, kept_as, length_flags, narrowed_by, same_empty, selected_below}
use Rattle.gix_attributes.proofs.search.outcome.Outcome.narrow.Goals as goal

pub flags-requires : goal.flags-requires
flags-requires c =
    rw (c.deref.ensures.value, c.len-count.ensures.count)
    (selected_below c.args.names.items c.args.collection.now.names _ c.requires.selected)

pub needed-requires-clause-count : goal.needed-requires-clause-count
needed-requires-clause-count c = grind (arith, nat_tests, length_bodies, c.requires.current.bodies, c.requires.current.slots)

pub needed-requires-clause-within : goal.needed-requires-clause-within
needed-requires-clause-within c = grind (arith, nat_tests, changed_within)

pub needed-requires-clause-numbers : goal.needed-requires-clause-numbers
needed-requires-clause-numbers c =
    rw (c.deref-2.ensures.value, c.requires.current.slots)
    (selected_below c.args.names.items c.args.collection.now.names _ c.requires.selected)

pub set_up-requires-clause-needed : goal.set_up-requires-clause-needed
set_up-requires-clause-needed c = grind (arith, nat_tests, length_flags)

pub set_up-requires-clause-within : goal.set_up-requires-clause-within
set_up-requires-clause-within c = grind (arith, nat_tests, length_flags, changed_within, kept_as)

pub invariant_of-self-2 : goal.invariant_of-self-2
invariant_of-self-2 c = grind (arith, nat_tests, length_flags, kept_as, length-map)

pub returns-clause-ok : goal.returns-clause-ok
returns-clause-ok c =
    let known = c.args.collection.now in
    let own = c.self.inside.state.slots.bodies in
    let wanted = c.in_ok-wanted.wanted in
    let needed = c.in_ok-needed.needed in
    let seen = selection_view c.args.names.items in
    let count : length wanted ≡ length known.names =
    length_flags (selection_view c.deref.result.now) c.len-count.result wanted c.in_ok-wanted.ensures ∙ c.len-count.ensures.count in
    let current = ap (λ (h : Content). h.bodies) (c.self.view_is ∙ c.in_ok-needed.ensures.same) ∙ c.requires.current.bodies in
    narrowed_by known _ seen needed _ c.requires.selected
    (ap (held_of seen) c.in_ok-set_up.ensures.ok
    ∙ held_as known _ (map (λ flag. None) wanted) (map (λ name. None) known.names)
    (changed_bodies c.new.result.items (sized_bodies (length wanted) own)) needed seen 0 0
    (same_empty None wanted known.names count)
    (kept_as known c.new.result.items own (length wanted) c.len-count.ensures.sound count c.new.ensures.items current)
    c.requires.selected refl)
    (subst (λ bodies. AreNeeded (length known.names) bodies seen needed) c.requires.current.bodies
    (rw (c.requires.current.slots, c.deref-2.ensures.value) at c.in_ok-needed.ensures.needed))

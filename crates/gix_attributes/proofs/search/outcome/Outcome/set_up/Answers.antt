use Rattle.std.proofs.lemmas.List.Elements.{All-weaker}
use Rattle.std.proofs.lemmas.Bool.Decides.{nat_tests}
use Rattle.std.proofs.Common.{arith, ◌≡◌, ◌∙◌, length, map, replicate, true, None, refl, ap}
use Rattle.std.proofs.lemmas.List.{length-map, length-replicate}
use Rattle.attr_search.proofs.ForCallers.{all_among}
use Rattle.attr_search.specs.shared.BodyChanges.{changed_bodies, sized_bodies}
use Rattle.attr_search.specs.shared.Slotted.{bodies_view}
use Rattle.gix_attributes.specs.Selection.{selection_view}
use Rattle.gix_attributes.specs.Contents.{initial_content, names_selected}
use Rattle.gix_attributes.proofs.SelectionLemmas.{copied_elsewhere, listed_elsewhere}
use Rattle.gix_attributes.proofs.OutcomeLemmas.{changed_to, changed_within, held_as, held_of, length_flags, same_empty, selected_below}
use Rattle.gix_attributes.proofs.search.outcome.Outcome.set_up.Goals as goal

pub flags-requires : goal.flags-requires
flags-requires c =
    rw (c.deref.ensures.value, c.len-count.ensures.count) (selected_below c.args.selected.items c.args.collection.now.names _ c.requires)

pub set_up-requires-clause-numbers : goal.set_up-requires-clause-numbers
set_up-requires-clause-numbers c = grind (arith, nat_tests, length_flags, All-weaker)

pub set_up-requires-clause-within : goal.set_up-requires-clause-within
set_up-requires-clause-within c = grind (arith, nat_tests, length_flags, changed_to, changed_within)

pub set_up-requires-clause-needed : goal.set_up-requires-clause-needed
set_up-requires-clause-needed c = grind (arith, nat_tests, length-replicate, length_flags)

pub set_up-requires-clause-among : goal.set_up-requires-clause-among
set_up-requires-clause-among c =
    let flags = c.in_ok-wanted.wanted in
    rw c.all_or_none-needed.ensures (all_among flags c.len-count.result
    (length_flags (selection_view c.deref.result.now) c.len-count.result flags c.in_ok-wanted.ensures))

pub invariant_of-self-2 : goal.invariant_of-self-2
invariant_of-self-2 c = grind (arith, nat_tests, length_flags, changed_to, copied_elsewhere, listed_elsewhere, length-map)

pub returns-clause-ok : goal.returns-clause-ok
returns-clause-ok c =
    let known = c.args.collection.now in
    let own = c.self.inside.state.slots.bodies in
    let changes = c.in_ok-changes.changes.items in
    let wanted = c.in_ok-wanted.wanted in
    let seen = selection_view c.args.selected.items in
    let count : length wanted ≡ length known.names = grind (arith, nat_tests, length_flags, c.in_ok-wanted.ensures, c.len-count.ensures.count) in
    let made = changed_to known changes own (bodies_view c.bodies.result.now) (length wanted) count c.bodies.ensures.bodies
    c.in_ok-changes.ensures.made in
    ap (held_of seen) c.in_ok-set_up.ensures.ok
    ∙ held_as known _ (map (λ flag. None) wanted) (map (λ name. None) known.names)
    (changed_bodies changes (sized_bodies (length wanted) own)) c.all_or_none-needed.result seen 0 0
    (same_empty None wanted known.names count) made c.requires refl
    ∙ ap (λ flags. record (initial_content known (names_selected seen)) { needed = flags })
    (c.all_or_none-needed.ensures ∙ ap (λ n. replicate n true) c.len-count.ensures.count)

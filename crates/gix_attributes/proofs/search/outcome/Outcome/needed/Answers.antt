use Rattle.std.proofs.Common.{arith, ℕ, ◌≡◌, ◌∙◌, length, subst, sym}
use Rattle.std.proofs.lemmas.Bool.Decides.{nat_tests}
use Rattle.gix_attributes.specs.inner.Needed.{IsClosedOver, IsFlagSet, SetsOnly, flags_of}
use Rattle.gix_attributes.specs.Selection.{selection_view}
use Rattle.gix_attributes.proofs.NeededLemmas.{closed_selected, needed_all, needed_marked, numbers_set}
use Rattle.gix_attributes.proofs.OutcomeLemmas.{length_flags}
use Rattle.gix_attributes.proofs.search.outcome.Outcome.needed.Goals as goal

pub returns-then-is_empty-clause-needed : goal.returns-then-is_empty-clause-needed
returns-then-is_empty-clause-needed c =
    needed_all (length c.args.self.now.slots) c.args.self.now.bodies c.args.names.now c.in_ok-needed.needed
    (sym c.is_empty.ensures ∙ c.if-is_empty.true) (c.in_ok-needed.ensures ∙ c.requires.wanted)

pub mark_all-requires-clause-within : goal.mark_all-requires-clause-within
mark_all-requires-clause-within c = grind (arith, nat_tests, length_flags)

pub mark_all-requires-clause-stacked : goal.mark_all-requires-clause-stacked
mark_all-requires-clause-stacked c = grind (arith, nat_tests, numbers_set)

pub mark_all-requires-clause-pending : goal.mark_all-requires-clause-pending
mark_all-requires-clause-pending c = grind (arith, nat_tests, closed_selected)

pub returns-clause-needed : goal.returns-clause-needed
returns-clause-needed c =
    let held = c.args.self.now in
    let n = length held.slots in
    let items = c.in_ok-owners.owners.items.items in
    let flags = c.mark_all.new.flags in
    let is : c.in_ok-needed.needed ≡ flags_of (selection_view c.args.names.now) n = c.in_ok-needed.ensures ∙ c.requires.wanted in
    needed_marked n held.bodies c.args.names.now items flags c.requires.within (sym c.is_empty.ensures ∙ c.if-is_empty.false)
    c.in_ok-owners.ensures.owners
    (subst (λ l. (a : ℕ) → IsFlagSet l a → IsFlagSet flags a) is c.in_ok-mark_all.ensures.kept)
    (c.in_ok-mark_all.ensures.count ∙ length_flags (selection_view c.args.names.now) n c.in_ok-needed.needed is)
    c.in_ok-mark_all.ensures.closed
    (subst (λ l. SetsOnly l flags (IsClosedOver items)) is c.in_ok-mark_all.ensures.only)

use Rattle.std.proofs.Common.{sym, refl, arith}
use Rattle.attr_table.specs.shared.Walk.{stops}
use Rattle.attr_table.proofs.ForCallers.{taken_most, taken_least, walked_searched, OneTable-of}
use Rattle.attr_search.specs.IndexedLists.{lists_view}
use Rattle.attr_search.specs.inner.Searched.{query_setting, state_bodies, state_wanted}
use Rattle.attr_search.specs.shared.SlotContents.{open_slots}
use Rattle.attr_search.proofs.TaggedLines.{roots_most}
use Rattle.attr_search.proofs.FoundAnswers.{counted_from, found_is, nothing_found, extends, searched_as}
use Rattle.attr_search.proofs.search_state.SearchState.search.Goals as goal

pub returns-then-is_done-clause-one : goal.returns-then-is_done-clause-one
returns-then-is_done-clause-one c = OneTable-of _ _

pub returns-then-is_done-clause-searched : goal.returns-then-is_done-clause-searched
returns-then-is_done-clause-searched c = walked_searched _ _ _ _ (stops (sym c.if-is_done.ensures))

pub returns-then-is_done-clause-joined : goal.returns-then-is_done-clause-joined
returns-then-is_done-clause-joined c = extends _ _ _ _ (returns-then-is_done-clause-searched c)

pub returns-then-is_done-clause-found : goal.returns-then-is_done-clause-found
returns-then-is_done-clause-found c = nothing_found (state_wanted c.args.self.now.slots) (open_slots c.args.self.now.slots)

pub returns-in_err-search_lists-clause-one : goal.returns-in_err-search_lists-clause-one
returns-in_err-search_lists-clause-one c = OneTable-of _ _

pub returns-clause-one : goal.returns-clause-one
returns-clause-one c = OneTable-of _ _

pub returns-clause-searched : goal.returns-clause-searched
returns-clause-searched c = grind (arith, walked_searched, searched_as)

pub returns-clause-joined : goal.returns-clause-joined
returns-clause-joined c = extends _ _ _ _ (returns-clause-searched c)

pub returns-clause-found : goal.returns-clause-found
returns-clause-found c =
    let part = rw c.begin_counts.ensures at c.in_ok-search_lists.ensures in
    let before = c.args.self.now.slots in
    let after = c.search_lists.new.self.slots in
    found_is (state_bodies before) (state_wanted before) _ before after c.remaining-remaining.result c.remaining.result 0 after.taken
    c.remaining-remaining.ensures.among (searched_as c.args.query (lists_view c.args.lists.now.lists.items) part.done)
    (counted_from before after 0 0 part.kept) c.remaining-remaining.ensures.count c.remaining.ensures.count

pub returns-clause-most : goal.returns-clause-most
returns-clause-most c = λ undone.
    let p = (rw c.begin_counts.ensures at c.in_ok-search_lists.ensures).done in
    taken_most (query_setting c.args.self.now.slots (lists_view c.args.lists.now.lists.items) c.args.query) (state_wanted c.args.self.now.slots)
    _ _ _ (searched_as c.args.query (lists_view c.args.lists.now.lists.items) p)

pub returns-clause-least : goal.returns-clause-least
returns-clause-least c = λ undone.
    let part = rw c.begin_counts.ensures at c.in_ok-search_lists.ensures in
    let long = part.kept.len in
    taken_least (query_setting c.args.self.now.slots (lists_view c.args.lists.now.lists.items) c.args.query) (state_wanted c.args.self.now.slots)
    _ _ _ _ (omega (arith, long, c.len.ensures)) (searched_as c.args.query (lists_view c.args.lists.now.lists.items) part.done)

pub returns-clause-roots : goal.returns-clause-roots
returns-clause-roots c = λ undone table stable.
    let p = (rw c.begin_counts.ensures at c.in_ok-search_lists.ensures).done in
    roots_most _ (state_wanted c.args.self.now.slots) (record c.args.self.now.slots { taken = 0; tested = 0 }) _ table stable refl p.rounds

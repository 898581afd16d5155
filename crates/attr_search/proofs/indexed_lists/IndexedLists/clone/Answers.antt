use Rattle.std.proofs.Common.{◌≡◌, ℕ, ◌+◌, ◌<◌, List, [], ◌∷◌, ◌++◌, length, get_or, take, map, ap, ◌∙◌, arith}
use Rattle.std.proofs.lemmas.List.{map-append, take_all, take_more}
use Rattle.attr_search.specs.declared.indexed_list.IndexedList.{IndexedList}
use Rattle.attr_search.specs.IndexedLists.{listed_view}
use Rattle.attr_search.proofs.indexed_lists.IndexedLists.clone.Goals as goal

-- one more list is copied
copied_more : {X : Type 0} (f : IndexedList → X) (all copy after : List IndexedList) (i : ℕ) (item list : IndexedList) → i < length all →
    item ≡ get_or all i item → after ≡ copy ++ list ∷ [] → f list ≡ f item → map f copy ≡ map f (take i all) → map f after ≡ map f (take (i + 1) all)
copied_more f all copy after i item list lt is pushed same so_far = grind (arith, take_more all i item lt, map-append)

pub loop-list-preserved : goal.loop-list-preserved
loop-list-preserved c =
    let all = c.args.self.now.lists.items in
    let lt = rw c.deref-list-items.ensures.value at c.loop-list-test.true in
    let is = rw c.deref-list-items.ensures.value at c.list-item.is in
    let pushed = rw c.in_ok-reserve.ensures.lists at c.push_reserved.ensures in (
      copied_more listed_view all _ _ _ _ c.in_ok-list.list lt is pushed c.in_ok-list.ensures.list c.loop-list.invariant.0,
      copied_more (λ l. l.list_id) all _ _ _ _ c.in_ok-list.list lt is pushed c.in_ok-list.ensures.list_id c.loop-list.invariant.1,
    )

pub returns-clause-lists : goal.returns-clause-lists
returns-clause-lists c =
    let all = c.args.self.now.lists.items in
    let whole = rw c.deref-list-items.ensures.value at c.loop-list-test.false in
    c.loop-list.invariant.0 ∙ ap (map listed_view) (take_all c.loop-list.list-index all (omega (arith, whole)))

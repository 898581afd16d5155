use Rattle.std.proofs.Common.{◌≡◌, ◌+◌, ◌<◌, Bool, true, List, [], ◌∷◌, length, get_or, nat_lt, nat_eq, arith, rules}
use Rattle.std.specs.List.{AllAdjacentBelow}
use Rattle.std.specs.List.Sorted.{IsStrictlyIncreasing}
use Rattle.std.proofs.lemmas.Bool.Decides.{nat_tests}
use Rattle.std.proofs.lemmas.List.{get_or-map, length-map}
use Rattle.std.proofs.lemmas.List.Sorted.{answers_always}
use Rattle.std.proofs.lemmas.Map.Keys.{IsDistinct-from_apart, below_from_sorted, sorted_from_strictly_increasing}
use Rattle.attr_search.specs.declared.indexed_list.IndexedList.{IndexedList}
use Rattle.attr_search.specs.IndexedLists.{list_ids_of}
use Rattle.attr_search.proofs.indexed_lists.do_ids_ascend.Goals as goal

abbrev ascend : IndexedList → IndexedList → Bool
ascend list next = nat_lt list.list_id next.list_id

rise : (lists : List IndexedList) → AllAdjacentBelow (λ x y. true ≡ ascend x y) lists (length lists) → IsStrictlyIncreasing (list_ids_of lists)
rise [] each k lt = absurd (omega (arith, lt))
rise (l ∷ ls) each k lt =
    let id = λ (list : IndexedList). list.list_id in
    let within : k + 1 < length (l ∷ ls) = omega (arith, lt, length-map (l ∷ ls) id) in
    let test = each k l within in
    let less : (get_or (l ∷ ls) k l).list_id < (get_or (l ∷ ls) (k + 1) l).list_id = grind (arith, nat_tests, test) in
    omega (arith, less, get_or-map id (l ∷ ls) k l 0 (omega (arith, within)), get_or-map id (l ∷ ls) (k + 1) l 0 within)

pub returns : goal.returns
returns c = λ t.
    let ids = list_ids_of c.args.lists.now in
    let answer = c.is_sorted_by.ensures.cases ascend (answers_always _ _ _ (λ f a r f' called. search rules)) in
    let sorted = sorted_from_strictly_increasing ids (rise c.args.lists.now (rw t at answer)) in
    IsDistinct-from_apart nat_eq ids (λ i j d lt within.
    let less = below_from_sorted ids i j d sorted lt within in
    grind (arith, nat_tests, less))

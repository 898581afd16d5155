use Rattle.std.proofs.Common.{◌≡◌, refl, get_or, ltb, arith, rules}
use Rattle.std.specs.Prelude.{slice_get}
use Rattle.std.proofs.lemmas.Bool.{ltb-false, ltb-true}
use Rattle.std.proofs.lemmas.Bool.Decides.{nat_tests}
use Rattle.std.proofs.lemmas.Option.{slice_get_past, slice_get_read}
use Rattle.std.proofs.lemmas.List.Sorted.{IsPartitionPoint-from_clause, IsPartitionedBy-ltb}
use Rattle.std.proofs.lemmas.Map.Keys.{non_decreasing_from_sorted, sorted_from_strictly_increasing}
use Rattle.attr_search.proofs.ListedLemmas.{first_listed, seen_match}
use Rattle.attr_search.specs.inner.AnswerRefs.{match_by_ref}
use Rattle.attr_search.specs.inner.SlotsView.{kept_parts}
use Rattle.attr_search.proofs.slots.AnswerSlots.next_filled.Goals as goal

pub returns-then-not-self : goal.returns-then-not-self
returns-then-not-self c =
    let b = c.self.inside in
    rw (← c.self.view_is) (seen_match (match_by_ref (kept_parts b)) b.slots.items c.deref.result.now c.args.from c.next_slot.result
    c.deref.ensures.value c.next_slot.ensures)

pub returns : goal.returns
returns c =
    let b = c.self.inside in
    let numbers = b.filled.items in
    let start = c.partition_point-start.result in
    let from = c.args.from in
    let rising = c.self.invariant.ordered (grind (arith, c.if-not-self.false)) in
    let parted =
    IsPartitionPoint-from_clause (λ n. ltb n from) numbers start (rw c.deref-2.ensures.value at c.partition_point-start.ensures.partitioned)
    (IsPartitionedBy-ltb (λ n. n) numbers from (non_decreasing_from_sorted numbers (sorted_from_strictly_increasing numbers rising)))
    (λ a r q k. search rules) in
    let first = first_listed b.slots.items numbers from start c.self.invariant.listed rising
    (λ j d early lt. ltb-true (get_or numbers j d) from (parted.0 j d (omega arith) early))
    (λ j d le lt. ltb-false (get_or numbers j d) from (parted.1 j d le lt)) in
    let looked = rw c.deref-3.ensures.value at c.get.ensures.lookup in
    let found : c.copied.result ≡ slice_get numbers start =
    grind (arith, nat_tests, slice_get_past, slice_get_read, c.copied.ensures, looked.0, looked.1) in
    rw (← c.self.view_is) (seen_match (match_by_ref (kept_parts b)) b.slots.items b.slots.items from c.copied.result refl (rw found first))

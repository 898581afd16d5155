use Rattle.std.specs.Prelude.{◌≡◌, false, slice_index_or, true}
use Rattle.std.proofs.Common.{arith}
use Rattle.std.proofs.lemmas.List.Sorted.{All-permutation, IsNonDecreasingBy-from_sort, length_permutation}
use Rattle.std.proofs.lemmas.Map.Keys.{IsStrictlyIncreasing-from_distinct}
use Rattle.attr_search.proofs.ListedLemmas.{listed_permuted}
use Rattle.attr_search.proofs.slots.AnswerSlots.order.Goals as goal

pub invariant_of-self : goal.invariant_of-self
invariant_of-self c =
    let b = c.self.inside in
    let sorted = c.sort_unstable.new.self.items in
    let listed = listed_permuted b.slots.items b.filled.items sorted c.sort_unstable.ensures.permutation c.self.invariant.listed in
    record {
      same_length = c.self.invariant.same_length;
      needed_length = c.self.invariant.needed_length;
      among = c.self.invariant.among;
      bodies = c.self.invariant.bodies;
      opened = c.self.invariant.opened;
      flagged = c.self.invariant.flagged;
      filled_needed = All-permutation (λ n. slice_index_or b.needed n false ≡ true) b.filled.items sorted c.sort_unstable.ensures.permutation
          c.self.invariant.filled_needed;
      within = c.self.invariant.within;
      counted = c.self.invariant.counted;
      listed = listed;
      before = omega (arith, c.self.invariant.before, length_permutation b.filled.items sorted c.sort_unstable.ensures.permutation);
      ordered = λ t. IsStrictlyIncreasing-from_distinct sorted (IsNonDecreasingBy-from_sort (λ n. n) sorted c.sort_unstable.ensures.sorted)
          listed.distinct;
    }

use Rattle.std.proofs.Common.{◌≡◌, ◌<◌, ◌++◌, ℕ, false, get_or, length, map}
use Rattle.attr_search.proofs.WantedLemmas.{after_set}
use Rattle.attr_search.proofs.wanted.set_each.Given as goal

abbrev pub invariant-loop-number : goal.invariant-loop-number
invariant-loop-number l = record {
  split : l.numbers.keys ≡ map (λ n. n.now) l.yielded ++ l.number-iterator;
  same_length : length l.flags.items ≡ length l.initial.flags.items;
  set : (a : ℕ) → a < length l.initial.flags.items →
      get_or l.flags.items a false ≡ after_set (map (λ n. n.now) l.yielded) l.value a (get_or l.initial.flags.items a false);
}

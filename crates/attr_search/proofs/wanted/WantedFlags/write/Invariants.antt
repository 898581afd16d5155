use Rattle.std.proofs.Common.{◌≡◌, ◌<◌, ◌≤◌, ℕ, false, get_or, length}
use Rattle.attr_search.proofs.wanted.WantedFlags.write.Given as goal

abbrev pub invariant-loop-number : goal.invariant-loop-number
invariant-loop-number l = record {
  same_length : length l.flags.items ≡ length l.initial.flags.items;
  before : (a : ℕ) → a < l.start → get_or l.flags.items a false ≡ get_or l.initial.flags.items a false;
  written : (a : ℕ) → l.start ≤ a → a < l.number → get_or l.flags.items a false ≡ l.self-inside.all;
}

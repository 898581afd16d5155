-- The rows up to the index fall.
use Rattle.std.proofs.Common.{ℕ, ◌+◌, ◌<◌, ◌≤◌, length, get_or}
use Rattle.attr_keys.proofs.order.is_falling.Given as goal

abbrev pub invariant-loop-index : goal.invariant-loop-index
invariant-loop-index l = (1 ≤ l.index) × ((k : ℕ) → k + 1 < l.index → k + 1 < length l.rows → get_or l.rows (k + 1) 0 < get_or l.rows k 0)

use Rattle.std.proofs.Common.{◌≡◌, ◌≤◌, ◌<◌, ◌+◌, ℕ, Bool, false, length, vec_capacity, drop, filter, All}
use Rattle.std.specs.List.{range_with_len}
use Rattle.attr_wildmatch.specs.TokenList.{tokens_of}
use Rattle.attr_wildmatch.specs.inner.RowIndexes.{indexes_below, IsStep, IsRow, IsSettled}
use Rattle.attr_wildmatch.proofs.wildmatch.Step.next_row.Given as goal

abbrev pub invariant-loop-reached : goal.invariant-loop-reached
invariant-loop-reached l =
    (l.free ≤ length l.self.tokens.now + 1) × (length l.next.items ≤ l.free) × (vec_capacity l.fn.next ≤ vec_capacity l.next) ×
    ((most : ℕ) → All (λ k. k < most) l.row → l.free ≤ most + length l.next.items) ×
    ((fresh alive before : ℕ → Bool) → IsStep l.self.case (tokens_of l.self.tokens.now) l.self.byte fresh alive before →
    fresh 0 ≡ false → l.row ≡ indexes_below before (length l.self.tokens.now + 1) →
    (p : ℕ) × (d : ℕ) × (p + d ≡ length l.self.tokens.now + 1) × (drop l.reached-index l.row ≡ filter before (range_with_len p d)) ×
    IsRow (tokens_of l.self.tokens.now) fresh alive l.next.items l.free ×
    IsSettled l.self.case (tokens_of l.self.tokens.now) l.self.byte before p l.free)

use Rattle.std.proofs.Common.{◌≡◌, ◌≤◌, ◌<◌, ◌+◌, ◌-◌, ℕ, Bool, true, false, length, vec_capacity}
use Rattle.attr_wildmatch.specs.TokenList.{tokens_of}
use Rattle.attr_wildmatch.specs.inner.RowIndexes.{indexes_below, IsGrowing, IsRow}
use Rattle.attr_wildmatch.proofs.wildmatch.insert.Given as goal

abbrev pub invariant-loop-last : goal.invariant-loop-last
invariant-loop-last l =
    (l.index ≤ l.last) × (l.last ≤ length l.tokens) × (length l.row.items ≤ l.last + 1) ×
    (vec_capacity l.fn.row ≤ vec_capacity l.row) ×
    ((most : ℕ) → l.index ≤ most → l.free ≤ most + length l.fn.row.items → l.last + 1 ≤ most + length l.row.items) ×
    ((fresh alive : ℕ → Bool) → IsGrowing (tokens_of l.tokens) fresh alive →
    IsRow (tokens_of l.tokens) fresh alive l.fn.row.items l.free → fresh l.index ≡ true →
    ((k : ℕ) → l.free ≤ k → k < l.index → alive k ≡ false) →
    (l.row.items ≡ indexes_below alive (l.last + 1)) × (fresh l.last ≡ true))

abbrev pub decreases-loop-last : goal.decreases-loop-last
decreases-loop-last l = length l.tokens - l.last

use Rattle.std.proofs.Common.{◌≡◌, ◌≤◌, ℕ, true, length}
use Rattle.attr_wildmatch.specs.Brackets.{members}
use Rattle.attr_wildmatch.specs.inner.Closing.{from_close}
use Rattle.attr_wildmatch.proofs.MembersLemmas.{after}
use Rattle.attr_wildmatch.proofs.bracket.members.Given as goal

abbrev pub invariant-loop-byte : goal.invariant-loop-byte
invariant-loop-byte l =
    (length l.rest ≤ length l.bytes) × (n : ℕ) × (length l.rest ≤ n) ×
    (members (length l.bytes) true l.bytes ≡ after l.list.items (members n l.first l.rest)) ×
    (l.close ≤ length l.rest → l.close ≡ from_close l.rest)

abbrev pub decreases-loop-byte : goal.decreases-loop-byte
decreases-loop-byte l = length l.rest

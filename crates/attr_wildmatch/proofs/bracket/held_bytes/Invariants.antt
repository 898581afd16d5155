-- The set has the bytes of the members so far.
use Rattle.std.proofs.Common.{◌≡◌, ℕ, take}
use Rattle.attr_wildmatch.specs.Brackets.{members_hold}
use Rattle.attr_wildmatch.specs.inner.ByteSets.{has}
use Rattle.attr_wildmatch.proofs.bracket.held_bytes.Given as goal

abbrev pub invariant-loop-member : goal.invariant-loop-member
invariant-loop-member l = (b : ℕ) → has l.set b ≡ members_hold (take l.member-index l.members) b

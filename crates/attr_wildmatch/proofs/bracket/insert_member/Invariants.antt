-- The set has the member's bytes below the next one.
use Rattle.std.proofs.Common.{◌≡◌, ℕ, ◌&&◌, ◌||◌, nat_lt}
use Rattle.attr_wildmatch.specs.Brackets.{member_holds}
use Rattle.attr_wildmatch.specs.inner.ByteSets.{has}
use Rattle.attr_wildmatch.proofs.bracket.insert_member.Given as goal

abbrev pub invariant-loop-byte : goal.invariant-loop-byte
invariant-loop-byte l = (b : ℕ) → has l.set b ≡ (has l.fn.set b || (member_holds l.member b && nat_lt b l.byte))

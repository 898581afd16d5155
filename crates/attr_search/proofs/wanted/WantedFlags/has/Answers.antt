use Rattle.std.proofs.Common.{arith}
use Rattle.attr_search.proofs.WantedLemmas.{flag_at, length_flags}
use Rattle.attr_search.proofs.wanted.WantedFlags.has.Goals as goal

pub returns-then-self : goal.returns-then-self
returns-then-self c = grind (arith, length_flags, flag_at)

pub returns-else-self : goal.returns-else-self
returns-else-self c = grind (arith, length_flags, flag_at)

use Rattle.std.proofs.Common.{arith}
use Rattle.std.proofs.lemmas.Bool.Decides.{nat_tests}
use Rattle.std.proofs.KnownBytes.{Consumes-trans}
use Rattle.check_attr.proofs.reading.read_all.Goals as goal

-- what was read before, and then the chunk that found no room
pub returns-in_err-extend_from_slice : goal.returns-in_err-extend_from_slice
returns-in_err-extend_from_slice g c =
    grind (arith, nat_tests, Consumes-trans, c.loop-count.invariant.consumed, c.in-Ok.ensures.bytes.0)

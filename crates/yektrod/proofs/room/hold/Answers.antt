use Rattle.std.proofs.lemmas.Bool.Decides.{nat_tests}
use Rattle.std.proofs.Common.{arith}
use Rattle.yektrod.proofs.RoomLemmas.{front_after}
use Rattle.yektrod.proofs.room.hold.Goals as goal

pub returns-clause-front : goal.returns-clause-front
returns-clause-front c =
    let fact = c.extend_from_slice.ensures.items in
    grind (arith, nat_tests, front_after, c.len.ensures, c.if-len-needed.false, c.args.held.now.ok.0, c.args.held.now.ok.1, c.min-fits.ensures, fact)

use Rattle.std.proofs.Common.{arith}
use Rattle.std.proofs.lemmas.Bool.Decides.{nat_tests}
use Rattle.attr_wildmatch.proofs.PairLemmas.{no_pair_left}
use Rattle.attr_wildmatch.proofs.pairs.Pairs.of.Goals as goal

pub returns : goal.returns
returns c = λ k.
    let none = no_pair_left k c.loop-rest.rest.now c.in_default.len_below in
    let whole = c.loop-rest.invariant k in
    grind (arith, nat_tests)

use Rattle.std.proofs.lemmas.Bool.Decides.{nat_tests}
use Rattle.std.proofs.lemmas.List.{take_all}
use Rattle.std.proofs.Common.{arith}
use Rattle.gix_attributes.proofs.SelectionLemmas.{flags_made}
use Rattle.gix_attributes.proofs.search.selection.flags.Goals as goal

pub returns : goal.returns
returns c = grind (arith, nat_tests, flags_made, take_all, c.loop-wanted.invariant)

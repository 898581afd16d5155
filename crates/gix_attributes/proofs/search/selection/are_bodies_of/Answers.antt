use Rattle.std.proofs.lemmas.Bool.Decides.{nat_tests}
use Rattle.std.proofs.Common.{arith}
use Rattle.std.proofs.lemmas.Bool.{false≢true}
use Rattle.std.proofs.lemmas.List.{length-map, take_all}
use Rattle.gix_attributes.proofs.SelectionLemmas.{bodies_more, bodies_same_at, length_bodies}
use Rattle.gix_attributes.proofs.search.selection.are_bodies_of.Goals as goal

pub loop-number-preserved : goal.loop-number-preserved
loop-number-preserved c = grind (arith, nat_tests, bodies_more, length-map)

pub returns-then-not-is_same : goal.returns-then-not-is_same
returns-then-not-is_same c = grind (arith, nat_tests, false≢true, bodies_same_at)

pub returns : goal.returns
returns c = grind (arith, nat_tests, length_bodies, length-map, take_all, c.loop-number-test.false, c.requires, c.loop-number.invariant)

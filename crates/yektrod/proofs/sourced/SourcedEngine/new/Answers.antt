use Rattle.std.proofs.Common.{arith}
use Rattle.std.proofs.lemmas.Bool.Decides.{nat_tests}
use Rattle.gix_attributes.specs.Globals.{built_in_source}
use Rattle.yektrod.proofs.SourcedLemmas.{labels_started, started_told}
use Rattle.yektrod.proofs.sourced.SourcedEngine.new.Goals as goal

pub invariant_of-result : goal.invariant_of-result
invariant_of-result c = grind (arith, nat_tests, labels_started, c.in_ok-engine.ensures, c.in_ok-push.ensures.items, c.new-sources.ensures.items)

pub returns : goal.returns
unfolding built_in_source
returns c =
    let fact = c.in_ok-source.ensures.items in
    grind (arith, nat_tests, started_told, c.in_ok-push.ensures.items, c.new-sources.ensures.items, fact, c.in_ok-engine.ensures)

use Rattle.std.proofs.Common.{arith, length-append}
use Rattle.std.proofs.lemmas.Bool.Decides.{nat_tests}
use Rattle.attr_keys.proofs.prefixes.push_links.Goals as goal

pub loop-index-preserved : goal.loop-index-preserved
loop-index-preserved g c =
    let fact = c.loop-index.invariant.count in
    grind (arith, nat_tests, length-append, c.in_ok-push.ensures.items, fact, c.loop-index.invariant.links, c.link-end.ensures)

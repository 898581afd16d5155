use Rattle.attr_search.proofs.BodyLemmas.{change_below, change_made}
use Rattle.attr_search.proofs.bodies.change.Goals as goal

pub loop-change-preserved : goal.loop-change-preserved
loop-change-preserved c = record {
  can = tt;
  finite = tt;
  below = change_below _ _ c.in-Some.change c.loop-change.bodies.items c.in-Some.ensures.steps.0 c.loop-change.invariant.below;
  left = change_made _ _ c.in-Some.change c.loop-change.bodies.items _ c.in-Some.ensures.steps.0 c.loop-change.invariant.left;
}

pub loop-change-preserved-in-Some : goal.loop-change-preserved-in-Some
loop-change-preserved-in-Some c = record {
  can = tt;
  finite = tt;
  below = change_below _ _ c.in-Some.change c.loop-change.bodies.items c.in-Some.ensures.steps.0 c.loop-change.invariant.below;
  left = change_made _ _ c.in-Some.change c.loop-change.bodies.items _ c.in-Some.ensures.steps.0 c.loop-change.invariant.left;
}

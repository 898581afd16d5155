use Rattle.std.proofs.Common.{◌-◌, arith}
use Rattle.attr_keys.specs.inner.Cases.{keys_seen}
use Rattle.attr_keys.proofs.Links.{link_less}
use Rattle.attr_keys.proofs.prefixes.link.Goals as goal

pub loop-end-preserved : goal.loop-end-preserved
loop-end-preserved g c =
    let bound = c.loop-end.invariant.bound in
    let some = c.loop-end-test.true in
    let count = c.requires.next in
    link_less (keys_seen g.K.Keyed.content c.args.keys) c.args.rows.now c.args.index c.loop-end.end _ c.requires.order c.requires.within
    c.loop-end-test.true c.loop-end.invariant c.if-not-may_begin_with.ensures
    (c.requires.each (c.loop-end.end - 1) (omega (arith, bound, some, count)))

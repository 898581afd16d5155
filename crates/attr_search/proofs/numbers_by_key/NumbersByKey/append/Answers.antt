use Rattle.std.proofs.Common.{arith, nat_eq, subst}
use Rattle.std.specs.HashMap.{get}
use Rattle.attr_search.specs.inner.NumbersView.{link_keys}
use Rattle.attr_search.proofs.KeyedLemmas.{CoversDown, link_at, walk_on, walk_shorter, walk_start}
use Rattle.attr_search.proofs.numbers_by_key.NumbersByKey.append.Goals as goal

pub loop-next-init : goal.loop-next-init
loop-next-init c = walk_start _ (get nat_eq c.self.inside.latest) _ _ _ c.self.invariant.latest (grind arith)

pub loop-next-smaller : goal.loop-next-smaller
loop-next-smaller c =
    let links = c.self.inside.links.items in
    let is = link_at links c.index.result.now c.args.key c.in-Some.number c.args.numbers.now.items c.loop-next.numbers.items c.loop-next.next
    c.in-Some.is c.index.ensures c.loop-next.invariant in
    rw c.in-Some.is (walk_shorter links c.index.result.now c.in-Some.number c.self.invariant.links is)

pub loop-next-preserved : goal.loop-next-preserved
loop-next-preserved c =
    let links = c.self.inside.links.items in
    let is = link_at links c.index.result.now c.args.key c.in-Some.number c.args.numbers.now.items c.loop-next.numbers.items c.loop-next.next
    c.in-Some.is c.index.ensures c.loop-next.invariant in
    rw c.in_ok-push.ensures.items (walk_on links c.index.result.now c.args.key c.in-Some.number c.args.numbers.now.items c.loop-next.numbers.items
    c.self.invariant.links is (subst (CoversDown (link_keys links) c.args.key c.args.numbers.now.items c.loop-next.numbers.items) c.in-Some.is
    c.loop-next.invariant))

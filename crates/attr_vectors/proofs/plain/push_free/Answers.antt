use Rattle.std.proofs.Common.{ap, ◌∙◌}
use Rattle.attr_vectors.proofs.Seen.{pushed_more, pushed_same, slots_push}
use Rattle.attr_vectors.proofs.plain.push_free.Goals as goal
use Rattle.attr_vectors.proofs.plain.push_free.Goals.{then-is_none+in_ok-push, else-is_none}

pub loop-item-preserved : goal.loop-item-preserved
loop-item-preserved c =
    elim c.if-is_none.branch [
      | then-is_none+in_ok-push w ↦
          let same = ap (λ v. v.items) w.stack-is ∙ w.in_ok-push.ensures.items in
          record {
            pushed = pushed_more c.args.stack.now.items c.loop-item.stack.items c.if-is_none.stack.items c.args.slots.now
                c.args.origin c.args.cause c.args.items.now c.loop-item.item-index _ c.loop-item-test.true
                w.if-is_none.ensures same c.loop-item.invariant.pushed;
            in_stack = λ n items before.
                slots_push n c.loop-item.stack.items c.if-is_none.stack.items _ same
                (items c.loop-item.item-index _ c.loop-item-test.true)
                (c.loop-item.invariant.in_stack n items before);
          }
      | else-is_none w ↦
          let same = ap (λ v. v.items) w.stack-is in
          record {
            pushed = pushed_same c.args.stack.now.items c.loop-item.stack.items c.if-is_none.stack.items c.args.slots.now
                c.args.origin c.args.cause c.args.items.now c.loop-item.item-index _ c.loop-item-test.true
                w.if-is_none.ensures same c.loop-item.invariant.pushed;
            in_stack = λ n items before.
                let f = c.loop-item.invariant.in_stack n items before in
                rw same f;
          }
    ]

use Rattle.std.proofs.Common.{◌≡◌, ◌+◌, ◌-◌, arith, true, is_some}
use Rattle.attr_search.specs.shared.SlotContents.{open_slots}
use Rattle.attr_search.proofs.FillingLemmas.{filled_more}
use Rattle.attr_search.proofs.slots.AnswerSlots.last_free.Goals as goal

pub loop-index-preserved : goal.loop-index-preserved
loop-index-preserved c =
    let i = c.loop-index.index in
    let at = c.loop-index-test.true in
    let filled : is_some (open_slots c.args.self.now c.index-items-index.result.id.0) ≡ true = grind (arith, c.is_free.ensures, c.if-is_free.false) in
    let back : (i - 1) + 1 ≡ i = omega arith in
    let known = rw (← back) at c.loop-index.invariant.filled in
    record {
      within = omega (arith, c.loop-index.invariant.within);
      filled = filled_more (open_slots c.args.self.now) c.args.items.now c.args.few (i - 1) c.index-items-index.result
          (omega (arith, c.loop-index.invariant.within)) c.requires.few c.index-items-index.is filled known;
    }

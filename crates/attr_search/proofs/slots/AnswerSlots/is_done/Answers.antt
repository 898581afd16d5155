use Rattle.attr_search.specs.inner.SlotsView.{kept_parts}
use Rattle.attr_search.proofs.OpenLemmas.{is_done_left}
use Rattle.attr_search.proofs.slots.AnswerSlots.is_done.Goals as goal

pub returns : goal.returns
returns c =
    let b = c.self.inside in
    rw (← c.self.view_is) (is_done_left b.wanted b.needed (kept_parts b) b.slots.items b.remaining c.self.invariant.same_length
    c.self.invariant.among c.self.invariant.counted)

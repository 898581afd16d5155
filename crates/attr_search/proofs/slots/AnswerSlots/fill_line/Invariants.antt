use Rattle.attr_search.specs.inner.Filling.{AtLine, FillsBy, LeadsTo, steps_left}
use Rattle.attr_search.specs.inner.Searched.{KeepsState}
use Rattle.attr_search.proofs.slots.AnswerSlots.fill_line.Given as goal

abbrev pub invariant-loop-alloc : goal.invariant-loop-alloc
invariant-loop-alloc l = record {
  at_line : AtLine l.line l.self l.at l.stack.items;
  kept : KeepsState l.initial.self l.self;
  by : FillsBy l.line.items.now l.initial.self l.self;
  filled : LeadsTo l.line l.initial.self l.initial.at l.initial.stack.items l.self l.at l.stack.items;
}

abbrev pub decreases-loop-alloc : goal.decreases-loop-alloc
decreases-loop-alloc l = steps_left l.self l.at l.stack.items

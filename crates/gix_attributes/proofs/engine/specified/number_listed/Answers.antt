use Rattle.std.proofs.Common.{None, get_or}
use Rattle.std.proofs.lemmas.List.{take_all}
use Rattle.gix_attributes.specs.inner.SoundEngines.{is_slot_specified}
use Rattle.gix_attributes.proofs.AnswerLemmas.{listed_next, listed_numbered}
use Rattle.gix_attributes.proofs.engine.specified.number_listed.Goals as goal

pub loop-number-preserved : goal.loop-number-preserved
loop-number-preserved c =
    listed_next (λ n. is_slot_specified (get_or c.args.outcome.now.slots n None)) c.args.listed.now c.loop-number.numbers.items
    c.push_specified.new.numbers.items c.loop-number.number-index c.loop-number-test.true c.loop-number.invariant c.in_ok-push_specified.ensures

pub returns : goal.returns
returns c =
    let listed = c.args.listed.now in
    rw (c.loop-number.invariant, take_all c.loop-number.number-index listed c.loop-number-test.false)
    (listed_numbered c.args.outcome.now.slots listed c.requires.listed c.requires.ordered)

use Rattle.std.proofs.Common.{rules, arith}
use Rattle.std.proofs.lemmas.List.{length-set}
use Rattle.attr_search.proofs.SlotLemmas.{all_emptied, listed_within, none_at, one_emptied}
use Rattle.attr_search.proofs.OpenLemmas.{all_open, open_emptied}
use Rattle.attr_search.proofs.slots.empty.Goals as goal

pub loop-number-preserved : goal.loop-number-preserved
loop-number-preserved c =
    let within = listed_within c.args.slots.now.items c.args.numbers.now c.loop-number.number-index c.requires.listed c.loop-number-test.true in
    grind (arith, length-set, one_emptied, open_emptied, within)

pub returns-clause-items : goal.returns-clause-items
returns-clause-items c = search (rules, all_emptied)

pub returns-clause-opened : goal.returns-clause-opened
returns-clause-opened c = λ needed same sound all.
    let slots = c.loop-number.slots.items in
    let empty = all_emptied slots c.args.slots.now.items c.args.numbers.now c.loop-number.number-index c.loop-number.invariant.same_length
    c.loop-number-test.false c.loop-number.invariant.others in
    grind (arith, all_open, none_at)

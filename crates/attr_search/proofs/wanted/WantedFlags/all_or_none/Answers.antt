use Rattle.std.proofs.Common.{rules, arith, ◌∙◌, ap}
use Rattle.attr_search.specs.shared.SlotContents.{count_wanted}
use Rattle.attr_search.specs.declared.wanted.WantedFlags.TheInside.{Inside}
use Rattle.attr_search.proofs.WantedLemmas.{count_replicate, flags_same}
use Rattle.attr_search.proofs.wanted.WantedFlags.all_or_none.Goals as goal
use Rattle.attr_search.proofs.wanted.WantedFlags.all_or_none.Goals.{else-all, then-all}

pub invariant_of-result : goal.invariant_of-result
invariant_of-result c =
    let flags : Inside = record { len = c.args.len; all = c.args.all; numbers = c.new.result; count = c.if-all.result } in
    let counted = ap count_wanted (flags_same flags c.new.ensures.empty) ∙ count_replicate c.args.len c.args.all in
    grind (arith, then-all, else-all, c.if-all.branch)

pub returns : goal.returns
returns c = search (rules, flags_same)

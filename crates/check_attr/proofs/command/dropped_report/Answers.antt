use Rattle.std.proofs.Common.{arith, append_assoc, None, refl, string_bytes}
use Rattle.std.proofs.lemmas.Bool.Decides.{nat_tests}
use Rattle.std.proofs.lemmas.Slice.Zip.{either_empty_from_Zip}
use Rattle.check_attr.proofs.GlobalLemmas.{dropped_report_of, all_reported}
use Rattle.check_attr.proofs.command.dropped_report.Goals as goal

pub loop-name-preserved : goal.loop-name-preserved
loop-name-preserved c =
    let names = c.in-Some.ensures.steps.0 in
    let lines = c.in-Some.ensures.steps.1 in
    let pushed = c.in_ok-push_dropped.ensures in
    let dropped = c.deref-in-loop-name.ensures.value in
    grind (arith, nat_tests, append_assoc, dropped_report_of, string_bytes, c.loop-name.invariant, names, lines, pushed, c.deref.ensures, dropped)

pub returns : goal.returns
returns c =
    all_reported c.loop-name.held (dropped_report_of c.args.names.now c.args.dropped.now) c.loop-name.name-iterator.a.rest.now
    c.loop-name.name-iterator.b.rest.now c.loop-name.invariant
    (either_empty_from_Zip c.loop-name.name-iterator c.next.new.self None refl c.in-None.ensures.steps)

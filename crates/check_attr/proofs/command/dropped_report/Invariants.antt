use Rattle.std.proofs.Common.{◌≡◌, ◌++◌}
use Rattle.check_attr.proofs.GlobalLemmas.{dropped_report_of}
use Rattle.check_attr.proofs.command.dropped_report.Given as goal

abbrev pub invariant-loop-name : goal.invariant-loop-name
invariant-loop-name l = l.held ++ dropped_report_of l.name-iterator.a.rest.now l.name-iterator.b.rest.now ≡ dropped_report_of l.names l.dropped

-- What is printed so far and what is left to print are together the lines text.
use Rattle.std.proofs.Common.{◌≡◌, ◌++◌}
use Rattle.std.specs.List.{flat_map}
use Rattle.check_attr.specs.LinesText.{line_text, lines_text}
use Rattle.check_attr.proofs.line_report.report.Given as goal

abbrev pub invariant-loop-line : goal.invariant-loop-line
invariant-loop-line l = l.held ++ flat_map line_text l.line-iterator.results ≡ lines_text l.input

-- The lines so far are written.
use Rattle.std.proofs.Common.{◌≡◌, ◌++◌, take}
use Rattle.std.specs.List.{flat_map}
use Rattle.check_attr.specs.ScriptText.{dropped_text}
use Rattle.check_attr.proofs.dropped_lines.push_dropped.Given as goal

abbrev pub invariant-loop-line : goal.invariant-loop-line
invariant-loop-line l = l.held ≡ l.fn.held ++ flat_map (dropped_text l.source) (take l.line-index l.dropped)

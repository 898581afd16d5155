-- What is written and what is held, with the lines that are left to push, are together what was held and all lines.
use Rattle.std.proofs.Common.{◌++◌, drop}
use Rattle.std.specs.List.{flat_map}
use Rattle.check_attr.specs.ScriptText.{dropped_text}
use Rattle.check_attr.proofs.PieceLemmas.{Holds}
use Rattle.check_attr.proofs.dropped_lines.pass_dropped.Given as goal

abbrev pub invariant-loop-line : goal.invariant-loop-line
invariant-loop-line g l =
    Holds g.W.Push.contents g.W.Push.failed g.W.Push.stalled l.initial.writer l.writer
    (l.held ++ flat_map (dropped_text l.source) (drop l.line-index l.dropped)) (l.initial.held ++ flat_map (dropped_text l.source) l.dropped)

use Rattle.std.proofs.Common.{map, take}
use Rattle.attr_keys.specs.shared.LineKeys.{line_content, shape_content}
use Rattle.attr_keys.specs.shared.SortedLines.{SortsLines}
use Rattle.list_rows.proofs.keys.index_of.Given as goal

abbrev pub invariant-loop-line : goal.invariant-loop-line
invariant-loop-line l = SortsLines (map (λ line. line_content (shape_content line)) (take l.line-index l.lines)) l.kinds

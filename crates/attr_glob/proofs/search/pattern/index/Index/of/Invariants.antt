use Rattle.std.proofs.Common.{◌≡◌, take}
use Rattle.attr_keys.specs.shared.SortedLines.{SortsLines}
use Rattle.attr_glob.specs.Indexed.{indexed_lines, listed_lines}
use Rattle.attr_glob.specs.shared.LineShapes.{indexed_keys}
use Rattle.attr_glob.proofs.search.pattern.index.Index.of.Given as goal

abbrev pub invariant-loop-mapping : goal.invariant-loop-mapping
invariant-loop-mapping g l = record {
  lines : indexed_lines l.lines.items ≡ listed_lines (take l.mapping-index l.list.patterns.items);
  sorted : SortsLines (indexed_keys l.lines.items) l.kinds;
}

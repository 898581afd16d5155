use Rattle.std.proofs.Common.{◌≡◌, map, take}
use Rattle.attr_glob.specs.Views.{patterns_of}
use Rattle.attr_glob.proofs.IndexLemmas.{pattern_in}
use Rattle.attr_glob.proofs.search.pattern.index.Index.is_of.Given as goal

abbrev pub invariant-loop-index : goal.invariant-loop-index
invariant-loop-index g l = map pattern_in (take l.index l.self.lines.items) ≡ patterns_of (take l.index l.list.patterns.items)

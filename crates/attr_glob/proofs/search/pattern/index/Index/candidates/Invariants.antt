use Rattle.std.proofs.Common.{◌≡◌, ◌++◌, take}
use Rattle.attr_glob.specs.Candidates.{candidates}
use Rattle.attr_glob.specs.Indexed.{indexed_patterns}
use Rattle.attr_glob.proofs.search.pattern.index.Index.candidates.Given as goal

abbrev pub invariant-loop-index : goal.invariant-loop-index
invariant-loop-index g l =
    let lines = l.self.lines.items in
    let name = l.base_name in
    l.found.items ++ candidates l.case name (indexed_patterns (take l.index lines)) ≡ candidates l.case name (indexed_patterns lines)

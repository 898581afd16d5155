use Rattle.std.proofs.Common.{◌≡◌, take}
use Rattle.attr_search.specs.inner.PartsView.{origins}
use Rattle.attr_search.proofs.answer_parts.copy_of_lines.Given as goal

abbrev pub invariant-loop-answered : goal.invariant-loop-answered
invariant-loop-answered l = origins l.copy.items ≡ origins (take l.answered-index l.lines)

use Rattle.std.proofs.Common.{◌≡◌}
use Rattle.attr_lists.specs.ListViews.{entries_view}
use Rattle.attr_lists.specs.inner.LineSteps.{forgotten}
use Rattle.attr_lists.proofs.ListLemmas.{front}
use Rattle.attr_lists.proofs.parser.forget_all_numbers.Given as goal

abbrev pub invariant-loop-mapping : goal.invariant-loop-mapping
invariant-loop-mapping l = entries_view l.mappings ≡ front forgotten l.mapping-index (entries_view l.initial.mappings)

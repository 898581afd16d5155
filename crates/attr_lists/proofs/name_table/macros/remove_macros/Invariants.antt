use Rattle.attr_lists.specs.shared.MacroNumbers.{RemovesUndefined}
use Rattle.attr_lists.proofs.name_table.macros.remove_macros.Given as goal

abbrev pub invariant-loop-known : goal.invariant-loop-known
invariant-loop-known l = RemovesUndefined l.entries l.initial.macros l.macros

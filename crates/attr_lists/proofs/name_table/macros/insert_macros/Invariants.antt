use Rattle.std.proofs.Common.{map, take}
use Rattle.attr_lists.specs.inner.Registered.{ListsBodies, numbered_body}
use Rattle.attr_lists.specs.shared.MacroNumbers.{KeepsNumbers}
use Rattle.attr_lists.proofs.name_table.macros.insert_macros.Given as goal

abbrev pub invariant-loop-known : goal.invariant-loop-known
invariant-loop-known l = record {
  kept : KeepsNumbers l.initial.macros l.macros;
  listed : ListsBodies l.macros (map numbered_body (take l.known-index l.list));
}

use Rattle.std.proofs.Common.{◌≡◌, length, take}
use Rattle.attr_lists.specs.inner.EntryViews.{all_definitions, AreEntries}
use Rattle.attr_lists.proofs.name_table.entry.clone_entries.Given as goal

abbrev pub invariant-loop-entry : goal.invariant-loop-entry
invariant-loop-entry l = record {
  count : length l.copy.items ≡ l.entry-index;
  definitions : all_definitions l.copy.items ≡ all_definitions (take l.entry-index l.entries);
  entries : AreEntries l.entries → AreEntries l.copy.items;
}

use Rattle.std.proofs.Common.{◌≡◌}
use Rattle.attr_lists.specs.Definitions.{of_other_lists}
use Rattle.attr_lists.specs.inner.EntryViews.{all_definitions, AreEntries}
use Rattle.attr_lists.proofs.ListLemmas.{front}
use Rattle.attr_lists.proofs.name_table.entry.take_back.Given as goal

abbrev pub invariant-loop-entry : goal.invariant-loop-entry
invariant-loop-entry l = record {
  definitions : all_definitions l.entries ≡ front (of_other_lists l.list_id) l.entry-index (all_definitions l.initial.entries);
  entries : AreEntries l.initial.entries → AreEntries l.entries;
}

use Rattle.std.proofs.Common.{◌≡◌, ℕ, ◌≤◌, length}
use Rattle.attr_lists.specs.inner.EntryViews.{definitions_at, AreEntries}
use Rattle.attr_lists.proofs.name_table.entry.extend.Given as goal

abbrev pub invariant-loop-number : goal.invariant-loop-number
invariant-loop-number l = record {
  count : length l.entries.items ≡ l.number;
  more : length l.initial.entries.items ≤ length l.entries.items;
  definitions : (n : ℕ) → definitions_at l.entries.items n ≡ definitions_at l.initial.entries.items n;
  entries : AreEntries l.initial.entries.items → AreEntries l.entries.items;
}

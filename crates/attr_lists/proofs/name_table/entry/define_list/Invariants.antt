use Rattle.std.proofs.Common.{◌≡◌, ◌<◌, ◌++◌, ℕ, length, map, drop}
use Rattle.attr_lists.specs.Definitions.{bodies_of_number, definition_of, of_other_lists}
use Rattle.attr_lists.specs.inner.EntryViews.{definitions_at, AreEntries}
use Rattle.attr_lists.specs.inner.Registered.{numbered_body}
use Rattle.attr_lists.proofs.name_table.entry.define_list.Given as goal

abbrev pub invariant-loop-known : goal.invariant-loop-known
invariant-loop-known l = record {
  defined : (number : ℕ) → number < length l.initial.entries →
      definitions_at l.entries number ++ map (definition_of l.list_id) (bodies_of_number number (map numbered_body (drop l.known-index l.list)))
      ≡ definitions_at l.initial.entries number ++ map (definition_of l.list_id) (bodies_of_number number (map numbered_body l.list));
  others : (number : ℕ) → of_other_lists l.list_id (definitions_at l.entries number) ≡ of_other_lists l.list_id
      (definitions_at l.initial.entries number);
  entries : AreEntries l.initial.entries → AreEntries l.entries;
}

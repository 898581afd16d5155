use Rattle.std.proofs.Common.{◌≡◌, ◌++◌, ℕ, List, drop}
use Rattle.attr_lists.specs.ListViews.{entries_view}
use Rattle.attr_lists.specs.Numbers.{names_in, numbered, with_names}
use Rattle.attr_lists.proofs.ListLemmas.{front}
use Rattle.attr_lists.proofs.name_table.numbers.number_list.Given as goal

abbrev pub invariant-loop-mapping : goal.invariant-loop-mapping
invariant-loop-mapping l = record {
  inserted : with_names l.names (names_in (entries_view (drop l.mapping-index l.initial.mappings))) ≡ with_names l.initial.names
      (names_in (entries_view l.initial.mappings));
  numbered : entries_view l.mappings ≡ front (numbered (with_names l.initial.names (names_in (entries_view l.initial.mappings)))) l.mapping-index
      (entries_view l.initial.mappings);
  extends : (more : List (List ℕ)) × (l.names ≡ l.initial.names ++ more);
}

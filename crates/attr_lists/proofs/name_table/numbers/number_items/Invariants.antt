use Rattle.std.proofs.Common.{◌≡◌, ◌++◌, ℕ, List, map, drop}
use Rattle.attr_lists.specs.Numbers.{numbered_item, with_names}
use Rattle.attr_lists.proofs.ListLemmas.{front}
use Rattle.attr_lists.proofs.name_table.numbers.number_items.Given as goal

abbrev pub invariant-loop-item : goal.invariant-loop-item
invariant-loop-item l = record {
  inserted : with_names l.names (map (λ x. x.inner.name) (drop l.item-index l.initial.items)) ≡ with_names l.initial.names
      (map (λ x. x.inner.name) l.initial.items);
  numbered : l.items ≡ front (numbered_item (with_names l.initial.names (map (λ x. x.inner.name) l.initial.items))) l.item-index l.initial.items;
  extends : (more : List (List ℕ)) × (l.names ≡ l.initial.names ++ more);
}

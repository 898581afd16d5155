use Rattle.std.proofs.Common.{length, nat_eq}
use Rattle.std.specs.Prelude.{◌↔◌}
use Rattle.std.specs.List.{IsDistinct}
use Rattle.attr_search.specs.IndexedLists.{list_ids_of}
use Rattle.attr_search.proofs.indexed_lists.is_each_id_new.Given as goal

abbrev pub invariant-loop-list : goal.invariant-loop-list
invariant-loop-list l = IsDistinct nat_eq (list_ids_of l.left) ↔ IsDistinct nat_eq (list_ids_of l.lists)

abbrev pub decreases-loop-list : goal.decreases-loop-list
decreases-loop-list l = length l.left

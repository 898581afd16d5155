use Rattle.std.proofs.Common.{◌≡◌, map, take}
use Rattle.attr_search.specs.IndexedLists.{list_ids_of, listed_view}
use Rattle.attr_search.proofs.indexed_lists.IndexedLists.clone.Given as goal

abbrev pub invariant-loop-list : goal.invariant-loop-list
invariant-loop-list l =
    (map listed_view l.copy.lists.items ≡ map listed_view (take l.list-index l.self.lists.items))
    × (list_ids_of l.copy.lists.items ≡ list_ids_of (take l.list-index l.self.lists.items))

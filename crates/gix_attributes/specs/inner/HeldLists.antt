-- How a collection holds indexed lists (own).
use Rattle.std.specs.Prelude.{List, All, nat_eq}
use Rattle.std.specs.List.{IsDistinct}
use Rattle.attr_lists.specs.Collections.{Collection}
use Rattle.attr_lists.specs.Definitions.{HoldsList}
use Rattle.attr_lists.specs.ListViews.{entries_view}
use Rattle.attr_search.specs.IndexedLists.{list_ids_of}
use Rattle.attr_search.specs.declared.indexed_list.IndexedList.{IndexedList}

-- the list is registered in the collection under its list id
abbrev pub IsHeldList : Collection → IndexedList → Type 0
IsHeldList known s = HoldsList known s.list_id (entries_view s.list.patterns.items)

-- all lists are, and their list ids differ
pub record AreHeldLists (known : Collection) (lists : List IndexedList) : Type 0 where
  pub distinct : IsDistinct nat_eq (list_ids_of lists)
  pub held : All (IsHeldList known) lists

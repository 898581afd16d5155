-- How a list is registered in a collection (own).
use Rattle.std.specs.Prelude.{◌≡◌}
use Rattle.attr_glob.specs.declared.search.pattern.List.{List as PatternList}
use Rattle.attr_lists.specs.Collections.{Collection}
use Rattle.attr_lists.specs.Definitions.{HoldsList, IsSoundCollection, RegistersAs}
use Rattle.attr_lists.specs.ListViews.{entries_view}
use Rattle.attr_lists.specs.declared.parser.Attributes.{Attributes}
use Rattle.attr_lists.specs.declared.types.Dropped.{Dropped}
use Rattle.attr_lists.specs.declared.types.Value.{Value}
use Rattle.attr_search.specs.declared.indexed_list.IndexedList.{IndexedList}

-- the list that was passed is registered under a list id that no list had
pub record Registers (before after : Collection) (list : PatternList Attributes Value Dropped) (indexed : IndexedList)
    : Type 0 where
  pub registered : RegistersAs indexed.list_id (entries_view list.patterns.items) before after
  pub same : indexed.list ≡ list
  pub holds : HoldsList after indexed.list_id (entries_view list.patterns.items)
  pub sound : IsSoundCollection after

-- The lists that a collection registers (own).
use Rattle.std.specs.Prelude.{ℕ, List, length}
use Rattle.attr_lists.specs.Collections.{Collection}
use Rattle.gix_attributes.specs.Covered.{ListsAreCovered}
use Rattle.gix_attributes.specs.Registers.{RegistersExactly, with_list_ids}
use Rattle.attr_search.specs.Settings.{ListsAreNamed}
use Rattle.attr_search.specs.ListView.{Listed}

-- a collection registers these lists under these list ids, and no others; their items have the numbers of their names, and all of
-- their numbers are numbers of names
pub record RegistersAlone (known : Collection) (list_ids : List ℕ) (lists : List Listed) : Type 0 where
  pub named : ListsAreNamed known.names lists
  pub covered : ListsAreCovered (length known.names) lists
  pub exactly : RegistersExactly known (with_list_ids list_ids lists)

-- What clauses see of global lists (own).
use Rattle.std.specs.Prelude.{map}
use Rattle.gix_attributes.specs.SearchViews.{lists_in}
use Rattle.check_attr.specs.ScriptStates.{GlobalLists}
use Rattle.check_attr.specs.declared.global_lists.Globals.TheInside.{Inside}

abbrev pub global_lists_view : Inside → GlobalLists
global_lists_view g =
    record {
      names = g.collection.names;
      lists = lists_in g.search;
      dropped = map (λ lines. lines.items) g.dropped.items;
    }

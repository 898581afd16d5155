-- What is true of global lists (own).
use Rattle.gix_attributes.specs.SearchViews.{Holds, lists_in, list_ids_in}
use Rattle.gix_attributes.specs.Registration.{RegistersAlone}
use Rattle.check_attr.specs.declared.global_lists.Globals.TheInside.{Inside}

-- the collection registers the lists of the search alone
pub record IsSoundGlobals (g : Inside) : Type 0 where
  pub held : Holds g.collection g.search
  pub known : RegistersAlone g.collection (list_ids_in g.search) (lists_in g.search)

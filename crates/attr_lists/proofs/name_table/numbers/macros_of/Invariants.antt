-- The macros so far are those of the lines so far.
use Rattle.std.proofs.Common.{◌≡◌, map, take}
use Rattle.attr_lists.specs.Definitions.{macros_defined}
use Rattle.attr_lists.specs.inner.Registered.{numbered_body}
use Rattle.attr_lists.specs.ListViews.{entries_view}
use Rattle.attr_lists.proofs.name_table.numbers.macros_of.Given as goal

abbrev pub invariant-loop-mapping : goal.invariant-loop-mapping
invariant-loop-mapping l = map numbered_body l.macros.items ≡ macros_defined (entries_view (take l.mapping-index l.mappings))

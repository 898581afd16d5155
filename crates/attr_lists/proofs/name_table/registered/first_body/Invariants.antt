use Rattle.std.proofs.Common.{◌≡◌, drop}
use Rattle.attr_lists.specs.Definitions.{bodies_named}
use Rattle.attr_lists.specs.ListViews.{entries_view}
use Rattle.attr_lists.proofs.name_table.registered.first_body.Given as goal

abbrev pub invariant-loop-index : goal.invariant-loop-index
invariant-loop-index l = bodies_named l.name (entries_view l.mappings) ≡ bodies_named l.name (entries_view (drop l.index l.mappings))

use Rattle.std.proofs.Common.{◌↔◌, map, drop}
use Rattle.attr_lists.specs.inner.Registered.{AgreesOn, numbered_body}
use Rattle.attr_lists.specs.ListViews.{entries_view}
use Rattle.attr_lists.proofs.name_table.registered.agrees_on.Given as goal

abbrev pub invariant-loop-known : goal.invariant-loop-known
invariant-loop-known l =
    AgreesOn l.names (map numbered_body l.list) (entries_view l.mappings) l.name
    ↔ AgreesOn l.names (map numbered_body (drop l.known-index l.list)) (entries_view l.rest) l.name

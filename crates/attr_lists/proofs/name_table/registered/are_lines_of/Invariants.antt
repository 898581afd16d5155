use Rattle.std.proofs.Common.{◌≡◌, ℕ, List, map, drop}
use Rattle.attr_lists.specs.Definitions.{bodies_named}
use Rattle.attr_lists.specs.inner.Registered.{bodies_of_name, numbered_body}
use Rattle.attr_lists.specs.ListViews.{entries_view}
use Rattle.attr_lists.proofs.name_table.registered.are_lines_of.Given as goal

abbrev pub invariant-loop-mapping : goal.invariant-loop-mapping
invariant-loop-mapping l = (name : List ℕ) →
    bodies_of_name l.names (map numbered_body l.rest) name ≡ bodies_named name (entries_view (drop l.mapping-index l.mappings)) →
    bodies_of_name l.names (map numbered_body l.list) name ≡ bodies_named name (entries_view l.mappings)

use Rattle.std.proofs.Common.{IfSome, map, slice_get}
use Rattle.std.specs.List.{AllWithin}
use Rattle.attr_lists.specs.ListViews.{entry_view, entries_view}
use Rattle.attr_lists.specs.inner.Registered.{AgreesOn, numbered_body}
use Rattle.attr_lists.proofs.name_table.registered.has_lines.Given as goal

abbrev pub invariant-loop-known : goal.invariant-loop-known
invariant-loop-known l =
    AllWithin (λ m. IfSome (slice_get l.names m.value.id.0) (AgreesOn l.names (map numbered_body l.list) (entries_view l.mappings)))
    l.list 0 l.known-index

abbrev pub invariant-loop-mapping : goal.invariant-loop-mapping
invariant-loop-mapping l =
    AllWithin (λ m. IfSome (entry_view m).macro
    (λ _. AgreesOn l.names (map numbered_body l.list) (entries_view l.mappings) (entry_view m).pattern.text)) l.mappings 0 l.mapping-index

use Rattle.std.proofs.Common.{◌≤◌, map, take, string_bytes}
use Rattle.gix_attributes.specs.Additions.{registered_lists}
use Rattle.gix_attributes.specs.Globals.{globals_in}
use Rattle.gix_attributes.specs.Keeping.{Adds, Keeps}
use Rattle.gix_attributes.specs.Registers.{no_lists}
use Rattle.gix_attributes.specs.SearchViews.{Holds}
use Rattle.gix_attributes.proofs.GlobalLemmas.{AreAdded}
use Rattle.gix_attributes.proofs.search.attributes.Search.new_globals_from.Given as goal

abbrev pub invariant-loop-name : goal.invariant-loop-name
invariant-loop-name g l = record {
  added : AreAdded g.F.Files.reads l.fn.files l.files (map string_bytes (take l.name-index l.names)) l.fn.collection l.fn.buf.items
      (globals_in l.search l.collection l.dropped.items l.buf.items);
  held : Holds l.collection l.search;
  kept : Keeps (no_lists l.fn.collection) (registered_lists l.search l.collection);
  registered : Adds (no_lists l.fn.collection) (registered_lists l.search l.collection);
  count : g.F.Files.failed l.fn.files ≤ g.F.Files.failed l.files;
}

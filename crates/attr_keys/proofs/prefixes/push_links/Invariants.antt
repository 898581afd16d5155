use Rattle.std.proofs.Common.{◌≡◌, length}
use Rattle.attr_keys.specs.inner.Cases.{keys_seen}
use Rattle.attr_keys.specs.shared.Rows.{AreLinks}
use Rattle.attr_keys.proofs.prefixes.push_links.Given as goal

abbrev pub invariant-loop-index : goal.invariant-loop-index
invariant-loop-index g l = record {
  count : length l.links.items ≡ l.index;
  links : AreLinks (keys_seen g.K.Keyed.content l.keys) l.rows l.links.items;
}

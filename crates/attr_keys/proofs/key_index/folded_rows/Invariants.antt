use Rattle.std.proofs.Common.{◌≡◌, map, take, true}
use Rattle.attr_keys.specs.inner.Kinds.{AreKindRows}
use Rattle.attr_keys.proofs.key_index.folded_rows.Given as goal

abbrev pub invariant-loop-line : goal.invariant-loop-line
invariant-loop-line g l = record {
  kinds : AreKindRows (map g.K.Keyed.content (take l.line-index l.lines)) l.rows;
  fold : l.rows.fold ≡ true;
}

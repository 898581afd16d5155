use Rattle.std.proofs.lemmas.List.Folds.{list_any-append}
use Rattle.std.proofs.lemmas.Option.{slice_get-map, slice_get_read}
use Rattle.std.proofs.lemmas.Bool.Decides.{nat_tests}
use Rattle.std.proofs.Common.{arith}
use Rattle.attr_keys.proofs.key_index.append_each.Goals as goal

pub loop-row-preserved-in-Continue-1 : goal.loop-row-preserved-in-Continue-1
loop-row-preserved-in-Continue-1 g c = grind (
  arith,
  nat_tests,
  slice_get-map,
  slice_get_read,
  list_any-append,
  c.loop-row-test.true,
  c.loop-row.auto.row,
  c.index-lines-row.is,
  c.key.ensures,
  c.in_ok-push.ensures.items,
  c.have.ensures,
  c.if-have.true,
  c.loop-row.invariant,
)

pub loop-row-preserved : goal.loop-row-preserved
loop-row-preserved g c = grind (
  arith,
  nat_tests,
  slice_get-map,
  slice_get_read,
  c.loop-row-test.true,
  c.index-lines-row.is,
  c.loop-row.auto.row,
  c.key.ensures,
  c.have.ensures,
  c.if-have.false,
  c.loop-row.invariant,
)

use Rattle.std.proofs.Common.{◌∙◌, arith}
use Rattle.attr_lists.proofs.EntryLemmas.{definitions_at-push, AreEntries-push}
use Rattle.attr_lists.proofs.name_table.entry.extend.Goals as goal

pub loop-number-preserved : goal.loop-number-preserved
loop-number-preserved c = record {
  count = omega (arith, c.in_ok-push.ensures.len);
  more = omega (arith, c.in_ok-push.ensures.len);
  definitions = λ n. definitions_at-push c.loop-number.entries.items c.push.new.self.items c.of.result n c.in_ok-push.ensures.items
      c.of.ensures.definitions ∙ c.loop-number.invariant.definitions n;
  entries = λ all. AreEntries-push c.loop-number.entries.items c.push.new.self.items c.of.result c.loop-number.number c.in_ok-push.ensures.items
      c.loop-number.invariant.count c.of.ensures.entry (c.loop-number.invariant.entries all);
}

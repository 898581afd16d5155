use Rattle.std.proofs.Common.{arith}
use Rattle.attr_lists.proofs.EntryLemmas.{copied_step}
use Rattle.attr_lists.proofs.name_table.entry.clone_entries.Goals as goal

pub loop-entry-preserved : goal.loop-entry-preserved
loop-entry-preserved c = grind (arith, copied_step)

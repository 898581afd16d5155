use Rattle.std.proofs.Common.{arith, unwrap_or}
use Rattle.attr_lists.proofs.ListLemmas.{refill_whole}
use Rattle.attr_lists.proofs.NameTableLaws.{number_stays}
use Rattle.attr_lists.proofs.name_table.numbers.number_line.Goals as goal

pub returns-in_ok-number-in-MacroAssignments-clause-numbered : goal.returns-in_ok-number-in-MacroAssignments-clause-numbered
returns-in_ok-number-in-MacroAssignments-clause-numbered c = grind (arith, number_stays, unwrap_or, refill_whole)

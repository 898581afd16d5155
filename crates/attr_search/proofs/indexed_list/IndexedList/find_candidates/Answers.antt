use Rattle.std.proofs.Common.{arith}
use Rattle.attr_glob.proofs.ForCallers.{keys_read}
use Rattle.attr_search.proofs.IndexedListLemmas.{busy_lines}
use Rattle.attr_search.proofs.TryingLemmas.{found_tried}
use Rattle.attr_search.proofs.indexed_list.IndexedList.find_candidates.Goals as goal

pub returns : goal.returns
returns c = grind (arith, busy_lines, keys_read, found_tried)

-- The base name's offset is seen after the base, as the one in the path is.
use Rattle.std.proofs.Common.{arith}
use Rattle.std.proofs.lemmas.Bool.Decides.{nat_tests}
use Rattle.attr_glob.proofs.BaseNameOffsets.{base_name_offset-drop}
use Rattle.attr_glob.proofs.search.pattern.List.strip_base_handle_recompute_basename_pos.Goals as goal

pub returns-clause-offset : goal.returns-clause-offset
returns-clause-offset g c = grind (arith, nat_tests, base_name_offset-drop)

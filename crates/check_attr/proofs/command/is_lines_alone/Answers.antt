-- The one argument is the text if and only if its bytes are the text's.
use Rattle.std.proofs.lemmas.Bool.Decides.{nat_tests}
use Rattle.std.proofs.Common.{string_bytes, codes, arith}
use Rattle.std.proofs.lemmas.Slice.Eq.{bytes_eq-Decides}
use Rattle.check_attr.proofs.ArgLemmas.{one_item}
use Rattle.check_attr.proofs.command.is_lines_alone.Goals as goal

pub returns-in-len1 : goal.returns-in-len1
returns-in-len1 c = grind (arith, nat_tests, string_bytes, one_item, codes, bytes_eq-Decides)

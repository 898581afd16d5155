-- The mode has the flag of the negation.
use Rattle.std.proofs.Common.{arith}
use Rattle.std.proofs.lemmas.Bool.Decides.{nat_tests}
use Rattle.attr_glob.proofs.PathLemmas.{read_rest-negative}
use Rattle.attr_glob.proofs.pattern.Pattern.from_bytes.Goals as goal

pub returns-clause-negative : goal.returns-clause-negative
returns-clause-negative c = grind (arith, nat_tests, read_rest-negative)

use Rattle.std.proofs.Common.{arith}
use Rattle.std.proofs.lemmas.Bool.Decides.{nat_tests}
use Rattle.attr_glob.proofs.MatchingLines.{ends_folded}
use Rattle.attr_glob.proofs.pattern.Pattern.is_candidate.Goals as goal

pub returns-else-not-contains : goal.returns-else-not-contains
returns-else-not-contains c = grind (arith, nat_tests, ends_folded)

-- At each index so far the patterns are read the same.
use Rattle.std.proofs.lemmas.Grind.{common_steps}
use Rattle.std.proofs.lemmas.List.{map-append, take_more}
use Rattle.attr_glob.proofs.IndexLemmas.{take_whole, pattern_in, lines_at}
use Rattle.std.proofs.Common.{arith}
use Rattle.std.proofs.lemmas.Bool.Decides.{nat_tests}
use Rattle.std.proofs.lemmas.Bool.{false≢true}
use Rattle.attr_glob.proofs.search.pattern.index.Index.is_of.Goals as goal

pub loop-index-preserved : goal.loop-index-preserved
loop-index-preserved g c = grind (arith, nat_tests, common_steps, take_more, map-append, pattern_in)

pub returns-then-not-is_same_pattern : goal.returns-then-not-is_same_pattern
returns-then-not-is_same_pattern g c = grind (arith, nat_tests, false≢true, pattern_in, lines_at)

pub returns : goal.returns
returns g c = grind (arith, nat_tests, take_whole)

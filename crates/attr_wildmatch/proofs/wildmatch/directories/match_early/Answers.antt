use Rattle.std.proofs.Common.{arith}
use Rattle.std.proofs.lemmas.Bool.Decides.{nat_tests}
use Rattle.attr_wildmatch.specs.TokenList.{tokens_of}
use Rattle.attr_wildmatch.proofs.Ends.{exact_answer}
use Rattle.attr_wildmatch.proofs.wildmatch.directories.match_early.Goals as goal

pub returns : goal.returns
returns c = record {
  matched =
      exact_answer c.args.case (tokens_of c.args.tokens.now) c.args.value.now c.run.result.0 c.run.ensures.matched.0 c.run.ensures.matched.1;
  room = grind (arith, nat_tests);
}

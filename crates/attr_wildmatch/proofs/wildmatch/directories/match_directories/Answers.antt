use Rattle.std.proofs.Common.{sym, ap, ◌∙◌, arith}
use Rattle.std.proofs.lemmas.Bool.Decides.{nat_tests}
use Rattle.attr_wildmatch.specs.TokenList.{tokens_of}
use Rattle.attr_wildmatch.specs.Deciding.{matches}
use Rattle.attr_wildmatch.proofs.Ends.{exact_answer}
use Rattle.attr_wildmatch.proofs.wildmatch.directories.match_directories.Goals as goal

pub returns-in-None : goal.returns-in-None
returns-in-None c =
    let f = matches c.args.case (tokens_of c.args.others.now) in
    record {
      matched =
          exact_answer c.args.case (tokens_of c.args.tokens.now) c.loop-rows.rest.now c.run.result.0 c.run.ensures.matched.0
          c.run.ensures.matched.1
          ∙ (ap (λ ts. matches c.args.case ts c.loop-rows.rest.now) c.requires.directory ∙ sym c.loop-rows.invariant.0);
      room = grind (arith, nat_tests);
    }

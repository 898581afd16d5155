-- What is taken off at the ends leaves the answer as it is, and no more tokens than before.
use Rattle.std.proofs.Common.{true, length, ap, ◌∙◌, arith}
use Rattle.std.proofs.lemmas.Bool.Decides.{nat_tests}
use Rattle.attr_wildmatch.specs.inner.Bordered.{is_bordered}
use Rattle.attr_wildmatch.proofs.TokenLemmas.{length_of_tokens}
use Rattle.attr_wildmatch.proofs.DecidingLemmas.{match_of_test, test_of_match}
use Rattle.attr_wildmatch.proofs.token.Tokens.matches.Goals as goal

pub returns-in_default-clause-matched : goal.returns-in_default-clause-matched
returns-in_default-clause-matched c = grind (arith, nat_tests, test_of_match)

pub match_early-requires : goal.match_early-requires
match_early-requires c =
    let left = c.in-Some.ensures in
    let same = length_of_tokens c.in-Some.tokens.now in
    let before = length_of_tokens c.as_slice.result.now in
    let all = ap length c.as_slice.ensures.tokens in
    record {
      ready =
          record {
            few = omega (arith, left.fewer, same, before, c.as_slice.ensures.few);
            bordered = left.bordered (ap (is_bordered true) c.as_slice.ensures.tokens ∙ c.as_slice.ensures.bordered);
            room = omega (arith, left.fewer, same, all, c.requires.room);
          };
    }

pub returns-clause-matched : goal.returns-clause-matched
returns-clause-matched c = grind (arith, nat_tests, match_of_test, test_of_match)

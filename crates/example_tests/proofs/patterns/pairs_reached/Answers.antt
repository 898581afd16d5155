use Rattle.std.proofs.Common.{[], ◌∷◌, arith, take, codes}
use Rattle.attr_wildmatch.specs.declared.case.Case.TheVariants.{Sensitive}
use Rattle.attr_wildmatch.specs.Deciding.{matches}
use Rattle.attr_wildmatch.specs.Tokens.{lit, star}
use Rattle.attr_wildmatch.proofs.ForCallers.{match_of_test}
use Rattle.example_tests.proofs.patterns.pairs_reached.Goals as goal

pub returns-clause-two : goal.returns-clause-two
returns-clause-two c = λ at_most.
    omega (
      arith,
      at_most (λ k j. matches Sensitive (take k (star ∷ lit 98 ∷ [])) (take j (codes "a")))
          (λ k j. match_of_test Sensitive (take k (star ∷ lit 98 ∷ [])) (take j (codes "a"))),
    )

use Rattle.std.proofs.Common.{subst, sym, ◌∙◌}
use Rattle.attr_wildmatch.specs.Matching.{Match, ReachedAtMost}
use Rattle.attr_wildmatch.proofs.SpellTokens.{only_spelled, spelled}
use Rattle.attr_wildmatch.proofs.wildmatch.count.Goals as goal

pub returns-clause-matched : goal.returns-clause-matched
returns-clause-matched c =
    let text = c.args.text.now in
    let tokens = c.in-Some.tokens in
    let is = sym c.in_ok-tokens.ensures.tokens ∙ c.in-Some.is in (
      λ match. (tokens, spelled text tokens is, c.count.ensures.matched.0 match),
      λ m. c.count.ensures.matched.1 (subst (λ ts. Match c.args.case ts c.args.value.now) (sym (only_spelled text tokens m.0 is m.1)) m.2),
    )

pub returns-clause-missed : goal.returns-clause-missed
returns-clause-missed c = λ fails ts are.
    subst (λ us. ReachedAtMost c.args.case us c.args.value.now c.count.result.1)
    (only_spelled c.args.text.now c.in-Some.tokens ts (sym c.in_ok-tokens.ensures.tokens ∙ c.in-Some.is) are) c.count.ensures.missed

-- a text whose tokens were read is not malformed
pub returns-clause-malformed : goal.returns-clause-malformed
returns-clause-malformed c =
    λ none. absurd (none c.in-Some.tokens (spelled c.args.text.now c.in-Some.tokens (sym c.in_ok-tokens.ensures.tokens ∙ c.in-Some.is)))

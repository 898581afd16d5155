use Rattle.std.proofs.Common.{arith, ap, sym, ◌∙◌}
use Rattle.std.proofs.lemmas.Grind.{common_steps}
use Rattle.std.proofs.lemmas.Bool.Decides.{nat_tests}
use Rattle.std.proofs.lemmas.Bool.{eqb-true}
use Rattle.attr_wildmatch.specs.Deciding.{matches}
use Rattle.attr_wildmatch.specs.TokenList.{tokens_of}
use Rattle.attr_wildmatch.proofs.Directories.{star_alone}
use Rattle.attr_wildmatch.proofs.StretchLemmas.{star_found, star_missed}
use Rattle.attr_wildmatch.proofs.TokenLemmas.{length_of_tokens}
use Rattle.attr_wildmatch.proofs.wildmatch.stretches.match_plain.Goals as goal

pub returns-then-is_empty : goal.returns-then-is_empty
returns-then-is_empty c = grind (arith, common_steps, nat_tests, eqb-true, star_alone c.args.case c.loop-others.rest.now)

pub returns-in_default-first_fit : goal.returns-in_default-first_fit
returns-in_default-first_fit c = grind (arith, nat_tests, star_missed)

pub loop-others-preserved : goal.loop-others-preserved
loop-others-preserved c =
    let more = star_found c.args.case (tokens_of c.in-Some.others.now) (tokens_of c.in-Some-first_fit.next.now)
    (tokens_of c.in_ok-after_star.field-0.now) c.loop-others.rest.now c.in-Some-first_fit.after.now c.loop-others.invariant.1
    (sym c.in-Some-first_fit.ensures) c.in_ok-after_star.ensures.star in
    (c.loop-others.invariant.0 ∙ (ap (λ ts. matches c.args.case ts c.loop-others.rest.now) c.in-Some.ensures.star ∙ more.0), more.1)

pub loop-others-smaller : goal.loop-others-smaller
loop-others-smaller c =
    let more = star_found c.args.case (tokens_of c.in-Some.others.now) (tokens_of c.in-Some-first_fit.next.now)
    (tokens_of c.in_ok-after_star.field-0.now) c.loop-others.rest.now c.in-Some-first_fit.after.now c.loop-others.invariant.1
    (sym c.in-Some-first_fit.ensures) c.in_ok-after_star.ensures.star in
    omega (arith, more.2, length_of_tokens c.in-Some-first_fit.next.now, length_of_tokens c.in-Some.others.now, c.in-Some.ensures.shorter)

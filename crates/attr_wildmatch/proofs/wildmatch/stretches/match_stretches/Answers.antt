use Rattle.std.proofs.Common.{arith, sym, ◌∙◌}
use Rattle.std.proofs.lemmas.Bool.Decides.{nat_tests}
use Rattle.attr_wildmatch.specs.TokenList.{tokens_of}
use Rattle.attr_wildmatch.proofs.StretchLemmas.{star_found, star_missed}
use Rattle.attr_wildmatch.proofs.wildmatch.stretches.match_stretches.Goals as goal

pub returns-in_default : goal.returns-in_default
returns-in_default c = grind (arith, nat_tests, star_missed)

pub match_plain-requires : goal.match_plain-requires
match_plain-requires c =
    (star_found c.args.case (tokens_of c.in_ok-others.others.now) (tokens_of c.in-Some.next.now) (tokens_of c.in_ok-after_star.field-0.now)
    c.args.value.now c.in-Some.after.now (sym c.has_slash.ensures ∙ c.if-has_slash.false) (sym c.in-Some.ensures) c.in_ok-after_star.ensures.star).1

pub returns : goal.returns
returns c =
    let more = star_found c.args.case (tokens_of c.in_ok-others.others.now) (tokens_of c.in-Some.next.now)
    (tokens_of c.in_ok-after_star.field-0.now) c.args.value.now c.in-Some.after.now (sym c.has_slash.ensures
    ∙ c.if-has_slash.false) (sym c.in-Some.ensures) c.in_ok-after_star.ensures.star in
    grind (arith, nat_tests, c.match_plain.ensures, c.in_ok-others.ensures.star)

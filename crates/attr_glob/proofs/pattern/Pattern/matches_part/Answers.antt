-- The kept tokens tell what the text matches.
use Rattle.std.proofs.Common.{sym, ap, ◌∙◌}
use Rattle.std.specs.Option.{option_copied}
use Rattle.attr_wildmatch.specs.Deciding.{some_match}
use Rattle.attr_glob.specs.Views.{pattern_view}
use Rattle.attr_wildmatch.proofs.ForCallers.{exact_answer}
use Rattle.attr_glob.proofs.KeptLemmas.{kept_if_undecided}
use Rattle.attr_glob.proofs.pattern.Pattern.matches_part.Goals as goal

pub returns-clause-matched : goal.returns-clause-matched
returns-clause-matched c = λ text read.
    let r = pattern_view c.args.self.now in
    let part = c.args.part.now in
    let told = c.matches.ensures.matched in
    let kept = kept_if_undecided r (λ e. let found = c.in_default.ensures.literal e in cc) (λ e. let found = c.in_default.ensures.suffix e in cc) in
    exact_answer c.args.case c.in-Some-tokens.tokens.now part c.matches.result told.0 told.1
    ∙ ap (λ o. some_match c.args.case o part) (ap option_copied (sym c.in-Some-tokens.is) ∙ (c.requires ∙ kept))

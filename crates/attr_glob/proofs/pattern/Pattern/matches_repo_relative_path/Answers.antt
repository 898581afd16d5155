use Rattle.std.proofs.Common.{arith, sym, ap, ◌∙◌}
use Rattle.std.proofs.lemmas.Bool.Decides.{nat_tests}
use Rattle.bstr.specs.BStr.{bstr_bytes}
use Rattle.attr_glob.specs.Paths.{matched_part}
use Rattle.attr_glob.specs.Views.{pattern_view}
use Rattle.attr_glob.proofs.PathLemmas.{path_answer}
use Rattle.attr_glob.proofs.pattern.Pattern.matches_repo_relative_path.Goals as goal

pub returns-in-Some-clause-matched : goal.returns-in-Some-clause-matched
returns-in-Some-clause-matched c = λ text read.
    let r = pattern_view c.args.self.now in
    path_answer c.args.case r (bstr_bytes c.args.path) c.matched_part-value.result.now c.args.is_dir c.in-Some.answer
    (sym c.takes_kind.ensures ∙ c.if-not-takes_kind.false)
    (c.matched_part-value.ensures ∙ ap (matched_part r) c.as_bytes.ensures) (c.in-Some.ensures.matched text read)

pub returns-clause-matched : goal.returns-clause-matched
returns-clause-matched c =
    let fact3 = c.matched_part-value.ensures in
    let fact = c.in_ok-answer.ensures.matched.0 in
    let fact2 = c.in_ok-answer.ensures.matched.1 in
    grind (arith, nat_tests, c.takes_kind.ensures, c.if-not-takes_kind.false, fact3, c.as_bytes.ensures, c.deref.ensures.value, fact, fact2)

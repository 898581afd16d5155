use Rattle.std.proofs.Common.{sym, ap, ◌∙◌}
use Rattle.std.specs.Cmp.Lexicographic.{pointwise}
use Rattle.attr_wildmatch.specs.Matching.{same_byte}
use Rattle.attr_glob.proofs.Literals.{folded}
use Rattle.attr_glob.proofs.pattern.same_text.Goals as goal

pub returns-in-Fold-clause-bytes : goal.returns-in-Fold-clause-bytes
returns-in-Fold-clause-bytes c =
    let equal = c.eq_ignore_ascii_case.ensures.test in
    folded c.args.x.now c.args.y.now c.eq_ignore_ascii_case.result equal.0 equal.1
    ∙ ap (λ k. pointwise (same_byte k) c.args.x.now c.args.y.now) (sym c.in-Fold.is)

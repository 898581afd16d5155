use Rattle.std.proofs.Common.{arith, ◌∙◌, ◌++◌, ap, append_assoc, lit<, string_bytes}
use Rattle.std.proofs.lemmas.Bool.Decides.{nat_tests}
use Rattle.gix_attributes.proofs.SourceLemmas.{trimmed}
use Rattle.gix_attributes.proofs.source.join.Goals as goal

pub returns : goal.returns
returns c =
    let rest = c.args.rest.now in
    let front = trimmed c.args.directory.now c.trim_end_matches.result.now c.trim_end_matches.ensures.matches in
    let slash = c.in_ok-push.ensures.bytes ∙ ap (λ bs. string_bytes c.in_ok-path.path ++ bs) (c.in_ok-push.ensures.ascii (lit< tt)) in
    grind (arith, nat_tests, append_assoc, c.in_ok-push_str.ensures.bytes, c.in_ok-path.ensures.ok)

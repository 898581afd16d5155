use Rattle.std.proofs.Common.{◌≡◌, ℕ, true, ap, sym, subst, ◌∙◌}
use Rattle.std.specs.Prelude.{◌↔◌, IsTrue, MatchOption}
use Rattle.std.specs.Option.{option_copied}
use Rattle.attr_wildmatch.specs.Pairs.{holds, needs_pair}
use Rattle.attr_glob.proofs.search.pattern.indexed_line.IndexedLine.may_match.Goals as goal

pub returns-in-Some : goal.returns-in-Some
returns-in-Some c =
    let may = IsTrue c.are_among.result in
    let among = c.are_among.ensures in
    let pairs = c.pairs.ensures in
    subst (λ kept. MatchOption kept may (λ ts. may ↔ ((k : ℕ) → needs_pair k ts ≡ true → holds c.args.pairs k ≡ true)))
    (ap option_copied (sym c.in-Some.is) ∙ c.tokens.ensures)
    (λ is k needs. among.0 is k (pairs k ∙ needs), λ all. among.1 (λ k has. all k (sym (pairs k) ∙ has)))

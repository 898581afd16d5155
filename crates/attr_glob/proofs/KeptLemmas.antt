-- Which tokens are kept of a pattern that bytes alone don't decide.
use Rattle.std.proofs.Common.{arith, ◌≡◌, true, None}
use Rattle.std.proofs.lemmas.Bool.Decides.{nat_tests}
use Rattle.attr_glob.specs.Patterns.{Reading, has_flag, ends_with}
use Rattle.attr_wildmatch.specs.Tokens.{tokens}
use Rattle.attr_glob.specs.KeptTokens.{kept_tokens}

-- with a wildcard, and no mere end, they are those of the text
pub kept_if_undecided : (r : Reading) → (r.wildcard ≡ None → ⊥) → (has_flag r.mode ends_with ≡ true → ⊥) → kept_tokens r ≡ tokens r.text
kept_if_undecided r wild other = grind (arith, nat_tests)

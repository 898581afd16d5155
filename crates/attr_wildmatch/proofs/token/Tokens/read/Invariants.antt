use Rattle.std.proofs.Common.{◌≡◌, ◌≤◌, ◌+◌, ℕ, true, length}
use Rattle.attr_wildmatch.specs.Tokens.{tokens_from}
use Rattle.attr_wildmatch.specs.TokenList.{tokens_of}
use Rattle.attr_wildmatch.proofs.TokenLemmas.{after}
use Rattle.attr_wildmatch.proofs.token.Tokens.read.Given as goal

abbrev pub invariant-loop-byte : goal.invariant-loop-byte
invariant-loop-byte l =
    (length l.list.items + length l.rest ≤ length l.text) × (n : ℕ) × (length l.rest ≤ n) ×
    (tokens_from (length l.text) true l.text ≡ after (tokens_of l.list.items) (tokens_from n l.border l.rest))

abbrev pub decreases-loop-byte : goal.decreases-loop-byte
decreases-loop-byte l = length l.rest

use Rattle.std.proofs.Common.{◌≤◌, min, vec_capacity}
use Rattle.attr_wildmatch.specs.TokenList.{tokens_of}
use Rattle.attr_wildmatch.proofs.RunLemmas.{IsAt}
use Rattle.attr_wildmatch.proofs.wildmatch.MatchBuffers.run.Given as goal

abbrev pub invariant-loop-byte : goal.invariant-loop-byte
invariant-loop-byte l =
    IsAt l.case (tokens_of l.tokens) l.value l.self-inside.row.items l.free l.visits l.byte-index ×
    (l.fn.self ≤ min (vec_capacity l.self-inside.row) (vec_capacity l.self-inside.next))

-- All tokens match the value exactly where they match from this directory on. The buffers keep their room.
use Rattle.std.proofs.Common.{◌≡◌, ◌≤◌, ◌||◌, length}
use Rattle.attr_wildmatch.specs.Deciding.{slash_then, matches}
use Rattle.attr_wildmatch.specs.TokenList.{tokens_of}
use Rattle.attr_wildmatch.proofs.wildmatch.directories.match_directories.Given as goal

abbrev pub invariant-loop-rows : goal.invariant-loop-rows
invariant-loop-rows l =
    (matches l.case (tokens_of l.tokens) l.value ≡
    (matches l.case (tokens_of l.others) l.rest || slash_then (matches l.case (tokens_of l.others)) l.rest))
    × (l.fn.rows ≤ l.rows)

abbrev pub decreases-loop-rows : goal.decreases-loop-rows
decreases-loop-rows l = length l.rest

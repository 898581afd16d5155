-- What is written and what is held are together the text of the records so far, and with what the others write that of the script.
use Rattle.std.proofs.Common.{◌≤◌, ◌+◌, ℕ, List, length}
use Rattle.check_attr.proofs.PieceLemmas.{Holds}
use Rattle.check_attr.proofs.RunLemmas.{Leaves}
use Rattle.check_attr.proofs.script_run.answer.Given as goal

abbrev pub invariant-loop-rest : goal.invariant-loop-rest
invariant-loop-rest g l = record {
  counted : l.number + length l.rest ≤ 1 + length l.script;
  passed : (text : List ℕ) × Holds g.W.Push.contents g.W.Push.failed g.W.Push.stalled l.initial.writer l.writer l.held text
      × Leaves l.initial.engine.state l.script l.engine.state l.number l.rest text;
}

abbrev pub decreases-loop-rest : goal.decreases-loop-rest
decreases-loop-rest g l = length l.rest

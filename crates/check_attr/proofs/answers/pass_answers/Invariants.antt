-- What is written and what is held, with what is left to push, are together what was held and all entries.
use Rattle.std.proofs.Common.{[], ◌++◌}
use Rattle.std.specs.Prelude.{unwrap_or}
use Rattle.std.specs.List.{flat_map}
use Rattle.check_attr.specs.inner.MatchText.{match_entry}
use Rattle.check_attr.proofs.PieceLemmas.{Holds}
use Rattle.check_attr.proofs.answers.pass_answers.Given as goal

abbrev pub invariant-loop-one : goal.invariant-loop-one
invariant-loop-one g l =
    Holds g.W.Push.contents g.W.Push.failed g.W.Push.stalled l.initial.writer l.writer
    (l.held ++ flat_map (match_entry l.question l.engine) l.one-iterator)
    (l.initial.held ++ flat_map (match_entry l.question l.engine) (unwrap_or l.engine.answers []))

-- What was written is the text of the script, or a beginning of it.
use Rattle.std.proofs.Common.{Err, Some, subst, sym, arith}
use Rattle.std.proofs.lemmas.Bool.Decides.{nat_tests}
use Rattle.check_attr.specs.Failures.{AppendsFront}
use Rattle.check_attr.specs.Program.{WritesOutcomeFrom}
use Rattle.check_attr.proofs.CommandLemmas.{returned}
use Rattle.check_attr.proofs.PieceLemmas.{front_on}
use Rattle.check_attr.proofs.script_run.play_over.Goals as goal

pub returns-in_err-write_all : goal.returns-in_err-write_all
returns-in_err-write_all g c =
    let answered = c.in_ok-malformed.ensures in
    let new = g.W.Push.contents c.write_all.new.writer in
    let Written = WritesOutcomeFrom c.args.engine.now.state (Some c.args.script.now) (g.W.Push.contents c.args.writer.now) new in
    let written =
    returned Written c.from_residual-in_err-write_all.result c.in_err-write_all.field-0.0 c.from_residual-in_err-write_all.ensures.1
    (subst (λ fault. Written (Err fault)) (sym c.in_err-write_all.ensures.written.only) (
      answered.0,
      answered.1,
      answered.2,
      front_on g.W.Push.contents g.W.Push.failed g.W.Push.stalled _ _ _ _ _ answered.4
          (subst (λ held. AppendsFront (g.W.Push.contents c.answer.new.writer) new held) c.text.ensures
          c.in_err-write_all.ensures.written.front),
    )) in
    record { plays = record { written = written; writer = grind (arith, nat_tests) }; read = grind (arith, nat_tests) }

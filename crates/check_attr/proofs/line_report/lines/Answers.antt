-- A beginning of what was to be written is a beginning of the lines text of what was read.
use Rattle.std.proofs.Common.{arith, List, ℕ}
use Rattle.std.proofs.lemmas.Bool.Decides.{nat_tests}
use Rattle.check_attr.specs.Failures.{AppendsFront}
use Rattle.check_attr.proofs.ReportLemmas.{OnErr-weaker}
use Rattle.check_attr.proofs.line_report.lines.Goals as goal

pub returns-clause-front : goal.returns-clause-front
returns-clause-front g c =
    let Front : List ℕ → Type 0 = AppendsFront (g.W.Push.contents c.args.writer.now) (g.W.Push.contents c.write_all.new.writer) in
    OnErr-weaker _ (Front c.text.result.now) _
    (λ front. grind (arith, nat_tests, c.in_ok-input.ensures.ok, c.text.ensures, c.in_ok-report.ensures, c.deref.ensures.value))
    c.write_all.ensures.written.front

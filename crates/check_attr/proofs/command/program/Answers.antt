use Rattle.std.proofs.Common.{arith, string_bytes}
use Rattle.std.proofs.lemmas.Bool.Decides.{nat_tests}
use Rattle.check_attr.proofs.command.program.Goals as goal

pub returns-then-is_lines_alone-clause-lines : goal.returns-then-is_lines_alone-clause-lines
returns-then-is_lines_alone-clause-lines g c = grind (arith, nat_tests)

pub returns-in-Ok-clause-script : goal.returns-in-Ok-clause-script
returns-in-Ok-clause-script g c = grind (
  arith,
  nat_tests,
  string_bytes,
  c.run_over-outcome.ensures,
  c.finish-in-Ok.ensures.status,
  c.into_engine-engine.ensures,
  c.finish-in-Ok.ensures.printed,
  c.in-Ok.ensures.loaded,
  c.text.ensures,
  c.print.ensures,
)

use Rattle.std.proofs.Common.{refl}
use Rattle.bstr.specs.Text.{line_len, lines_from}
use Rattle.example_tests.proofs.lines.lines_kept.Goals as goal

pub returns-clause-kept : goal.returns-clause-kept
unfolding line_len lines_from
returns-clause-kept c = refl

pub returns-clause-dropped : goal.returns-clause-dropped
unfolding line_len lines_from
returns-clause-dropped c = refl

use Rattle.std.proofs.Common.{refl}
use Rattle.bstr.specs.Text.{line_len, lines_from}
use Rattle.example_tests.proofs.lines.lines_read.Goals as goal

pub returns : goal.returns
unfolding line_len lines_from
returns c = refl

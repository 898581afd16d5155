use Rattle.std.proofs.Common.{refl}
use Rattle.bstr.specs.Text.{line_len, lines_from}
use Rattle.example_tests.proofs.tables.candidates_counted.Goals as goal

pub returns-clause-three : goal.returns-clause-three
unfolding line_len lines_from
returns-clause-three c = refl

pub returns-clause-given : goal.returns-clause-given
unfolding line_len lines_from
returns-clause-given c = refl

pub returns-clause-one : goal.returns-clause-one
unfolding line_len lines_from
returns-clause-one c = refl

pub returns-clause-both : goal.returns-clause-both
unfolding line_len lines_from
returns-clause-both c = refl

pub returns-clause-beside : goal.returns-clause-beside
unfolding line_len lines_from
returns-clause-beside c = refl

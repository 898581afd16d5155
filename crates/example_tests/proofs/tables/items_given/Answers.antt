use Rattle.std.proofs.Common.{refl}
use Rattle.bstr.specs.Text.{line_len, lines_from}
use Rattle.example_tests.proofs.tables.items_given.Goals as goal

pub returns-clause-below : goal.returns-clause-below
unfolding line_len lines_from
returns-clause-below c = refl

pub returns-clause-beside : goal.returns-clause-beside
unfolding line_len lines_from
returns-clause-beside c = refl

pub returns-clause-other : goal.returns-clause-other
unfolding line_len lines_from
returns-clause-other c = refl

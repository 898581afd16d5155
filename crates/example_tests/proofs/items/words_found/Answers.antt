use Rattle.std.proofs.Common.{refl, arith}
use Rattle.std.specs.Prelude.{codes}
use Rattle.example_tests.proofs.items.words_found.Goals as goal

pub returns : goal.returns
returns c = (
  codes " ",
  codes " -b ",
  record { whole = refl; blanks = refl; run = refl; some = omega arith; longest = refl },
  (codes " ", codes " ", record { whole = refl; blanks = refl; run = refl; some = omega arith; longest = refl }, refl),
)

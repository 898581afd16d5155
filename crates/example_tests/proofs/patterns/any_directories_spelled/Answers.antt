use Rattle.std.proofs.Common.{[], ◌∷◌, inr, refl, arith}
use Rattle.example_tests.proofs.patterns.any_directories_spelled.Goals as goal

pub returns : goal.returns
returns c = (
  98 ∷ [],
  (0, refl, refl),
  (
    [],
    inr (refl, λ e. omega (arith, e), λ e. omega (arith, e), λ e. omega (arith, e), λ e. omega (arith, e)),
    refl,
  ),
)

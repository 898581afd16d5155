use Rattle.std.proofs.Common.{[], inl, inr, refl, ap, arith}
use Rattle.std.specs.Prelude.{codes, slice_index}
use Rattle.example_tests.proofs.patterns.bracket_spelled.Goals as goal

pub returns-clause-spelled : goal.returns-clause-spelled
returns-clause-spelled c = (
  [],
  (
    33,
    codes "a-c]",
    refl,
    inl refl,
    (
      codes "]",
      (
        codes "c]",
        inr (refl, λ e. omega (arith, e), λ e. refl, λ class. omega (arith, ap (λ text. slice_index text 0) class.2)),
        inr (refl, λ e. omega (arith, e), λ e. omega (arith, e)),
      ),
      (refl, refl),
    ),
  ),
  refl,
)

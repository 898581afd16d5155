use Rattle.std.proofs.Common.{[], refl, arith}
use Rattle.std.specs.Prelude.{codes}
use Rattle.attr_text.specs.ItemForms.{accepted, after_exclamation_mark, after_minus, name_alone, name_and_value}
use Rattle.attr_text.specs.declared.state.State.TheVariants.{Set, Unset, Value, Unspecified}
use Rattle.example_tests.proofs.items.items_read.Goals as goal

pub returns-clause-set : goal.returns-clause-set
returns-clause-set c = accepted (codes "a") Set (name_alone (codes "a") (λ e. omega (arith, e), λ e. omega (arith, e)) refl) refl refl

pub returns-clause-unset : goal.returns-clause-unset
returns-clause-unset c = accepted (codes "a") Unset (after_minus (codes "a") (codes "=x") refl refl) refl refl

pub returns-clause-value : goal.returns-clause-value
returns-clause-value c =
    accepted (codes "a") (Value (codes "b=c"))
    (name_and_value (codes "a") (codes "b=c") (λ e. omega (arith, e), λ e. omega (arith, e)) refl) refl refl

pub returns-clause-unspecified : goal.returns-clause-unspecified
returns-clause-unspecified c = accepted (codes "a") Unspecified (after_exclamation_mark (codes "a") [] refl tt) refl refl

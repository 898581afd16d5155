use Rattle.std.proofs.Common.{[], refl, arith}
use Rattle.std.specs.Prelude.{codes}
use Rattle.attr_text.specs.ItemForms.{after_minus, bad_name, name_alone, name_and_value, reserved_name}
use Rattle.attr_text.specs.declared.state.State.TheVariants.{Set, Unset, Value}
use Rattle.example_tests.proofs.items.items_refused.Goals as goal

pub returns-clause-minus : goal.returns-clause-minus
returns-clause-minus c = bad_name (codes "-a") Unset (after_minus (codes "-a") [] refl tt) refl

pub returns-clause-empty : goal.returns-clause-empty
returns-clause-empty c =
    bad_name [] (Value (codes "x")) (name_and_value [] (codes "x") (λ e. omega (arith, e), λ e. omega (arith, e)) refl) refl

pub returns-clause-reserved : goal.returns-clause-reserved
returns-clause-reserved c =
    reserved_name (codes "builtin_x") Set (name_alone (codes "builtin_x") (λ e. omega (arith, e), λ e. omega (arith, e)) refl) refl refl

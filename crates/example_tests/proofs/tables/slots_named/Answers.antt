use Rattle.std.proofs.Common.{[], ap, arith, codes, slice_index}
use Rattle.std.specs.Prelude.{unwrap_or}
use Rattle.attr_text.specs.declared.state.State.TheVariants.{Set}
use Rattle.example_tests.specs.Tables.{item_with}
use Rattle.example_tests.proofs.tables.slots_named.Goals as goal

pub returns-clause-one : goal.returns-clause-one
returns-clause-one c = λ slots. omega (arith, slots 0 (item_with 1 (codes "b") Set) (omega arith))

pub returns-clause-in_wrong_slot : goal.returns-clause-in_wrong_slot
returns-clause-in_wrong_slot c = λ held. omega (arith, ap (λ name. slice_index (unwrap_or name []) 0) (held 0))

use Rattle.std.proofs.Common.{[], ap, arith, codes, slice_index}
use Rattle.std.specs.Prelude.{unwrap_or}
use Rattle.attr_text.specs.declared.state.State.TheVariants.{Set}
use Rattle.example_tests.specs.Tables.{entry_of_two, item_with, line_of_two}
use Rattle.example_tests.proofs.tables.lists_named.Goals as goal

-- the first item has the number of `a`
pub returns-clause-swapped : goal.returns-clause-swapped
returns-clause-swapped c = λ named.
    let first = named 0 line_of_two (omega arith) 0 entry_of_two (omega arith) 0 (item_with 1 (codes "b") Set) (omega arith) in
    omega (arith, ap (λ name. slice_index (unwrap_or name []) 0) first)

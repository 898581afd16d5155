use Rattle.std.proofs.Common.{arith, List, ap}
use Rattle.std.proofs.lemmas.Bool.Decides.{nat_tests}
use Rattle.gix_attributes.specs.declared.search.Dropped.{Dropped}
use Rattle.gix_attributes.specs.Additions.{registered_lists}
use Rattle.gix_attributes.specs.Collections.{Collection}
use Rattle.gix_attributes.specs.EngineStates.{EngineState}
use Rattle.gix_attributes.proofs.ForCallers.{alone_first, globals_state, state_of}
use Rattle.check_attr.specs.ScriptStates.{GlobalLists}
use Rattle.check_attr.proofs.global_lists.read_globals.Goals as goal

pub invariant_of-result : goal.invariant_of-result
invariant_of-result g c = record { held = grind (arith, nat_tests); known = grind (arith, nat_tests, alone_first) }

pub returns-clause-loaded : goal.returns-clause-loaded
returns-clause-loaded g c =
    let made = c.in_ok-search.ensures.globals in
    let read = made.0 in
    let loaded = registered_lists c.in_ok-search.search c.new_globals_from.new.collection in
    let state = globals_state c.new-collection.result read loaded
    (ap (λ (k : Collection). k.names) c.new-collection.ensures.empty) made.4.loaded in
    let Made : EngineState → List (List Dropped) → GlobalLists = λ s dropped. record { names = s.names; lists = s.lists; dropped = dropped } in (
      read,
      record { in_order = made.1; named = made.2; answered = made.3 },
      grind (arith, nat_tests, state_of),
    )

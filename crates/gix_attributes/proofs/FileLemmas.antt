-- Searches without lists, and the state of an engine after the addition of a buffer.
use Rattle.std.proofs.Common.{arith, ◌≡◌, ℕ, Bool, List, [], ◌∷◌, Option}
use Rattle.std.proofs.lemmas.Bool.Decides.{nat_tests}
use Rattle.std.specs.List.{IsDistinct}
use Rattle.attr_lists.specs.Collections.{Collection}
use Rattle.attr_search.specs.IndexedLists.{list_ids_of, lists_view}
use Rattle.attr_search.specs.declared.indexed_list.IndexedList.{IndexedList}
use Rattle.gix_attributes.specs.Additions.{AddsBuffer, RegisteredLists}
use Rattle.gix_attributes.specs.EngineStates.{EngineState, state_with_list}
use Rattle.gix_attributes.specs.SearchViews.{AreHeld}

-- the names and the lists, without a selection
abbrev pub state_of : RegisteredLists → EngineState
state_of l = record { names = l.known.names; lists = l.lists; selection = [] }

-- the names and the lists after the addition of a buffer
pub buffer_added : (source : List ℕ) (root : Option (List ℕ)) (allow_macros : Bool) (bytes : List ℕ) (before after : RegisteredLists)
    → AddsBuffer source root allow_macros bytes before after
    → state_of after ≡ state_with_list (record { allow_macros = allow_macros; source = source; root = root; buffer = bytes }) (state_of before)
buffer_added source root allow_macros bytes before after added = grind (arith, nat_tests)

-- a collection holds a search without lists
pub none_held : (known : Collection) (lists : List IndexedList) → lists_view lists ≡ [] → AreHeld known (list_ids_of lists) (lists_view lists)
unfolding IsDistinct
none_held known [] e = record { distinct = tt; each = tt }
none_held known (s ∷ others) e = absurd cc

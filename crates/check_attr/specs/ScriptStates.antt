-- The state of a script, and how each record changes it (own): that of an engine.
use Rattle.std.specs.Prelude.{ℕ, List, []}
use Rattle.gix_attributes.specs.declared.search.Dropped.{Dropped}
use Rattle.gix_attributes.specs.ListView.{Listed}
use Rattle.gix_attributes.specs.EngineStates.{EngineState, state_selecting, state_with_list, state_without_last}
use Rattle.check_attr.specs.Script.{Record, add, pop, names, ask}

-- the state before a script: the names and the lists of global files, and for each of these files the lines that it drops
pub record GlobalLists : Type 0 where
  pub names : List (List ℕ)
  pub lists : List Listed
  pub dropped : List (List Dropped)

-- a script starts from the global lists, without a selection
abbrev pub initial_state : GlobalLists → EngineState
initial_state globals = record { names = globals.names; lists = globals.lists; selection = [] }

-- the state after a record
abbrev pub next_state : Record → EngineState → EngineState
next_state (add a) s = state_with_list a s
next_state pop s = state_without_last s
next_state (names selected) s = state_selecting selected s
next_state (ask q) s = s

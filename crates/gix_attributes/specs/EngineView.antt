-- What clauses see of an engine and of what it is passed (own).
use Rattle.std.specs.Prelude.{ℕ, ◌==◌, true, List, [], None, Some, fold, length, if◌then◌else◌}
use Rattle.std.specs.Option.{option_copied}
use Rattle.gix_attributes.specs.Answers.{ReadAnswer, found, missing, device_failed, memory_refused}
use Rattle.gix_attributes.specs.Contents.{Content, found_in, names_selected, selected_in}
use Rattle.gix_attributes.specs.FileReads.{FileRead}
use Rattle.gix_attributes.specs.Globals.{built_in, built_in_source}
use Rattle.gix_attributes.specs.SearchViews.{lists_in}
use Rattle.gix_attributes.specs.declared.search.attributes.Search.{Search}
use Rattle.attr_search.specs.Slots.{Matched}
use Rattle.gix_attributes.specs.EngineStates.{AddedFile, AddedList, EngineContent, EngineState, specified_among, state_with_list}
use Rattle.gix_attributes.specs.declared.engine.Addition.{Addition}
use Rattle.gix_attributes.specs.declared.engine.Below.{Below}
use Rattle.gix_attributes.specs.declared.engine.Engine.TheInside.{Inside}

abbrev pub addition_view : Addition → AddedFile
addition_view a =
    record { allow_macros = a.allow_macros; source = a.source.now; root = option_copied a.root; buffer = a.buffer.now }

abbrev pub below_view : Below → AddedList
below_view b =
    record { allow_macros = b.allow_macros; source = b.source.now; base = option_copied b.base; buffer = b.buffer.now }

-- the lists of a search, with names by number and without a selection
abbrev pub state_by : List (List ℕ) → Search → EngineState
state_by names search = record { names = names; lists = lists_in search; selection = [] }

-- the built-in list alone
abbrev pub started : EngineState
started =
    state_with_list (record { allow_macros = true; source = built_in_source; root = None; buffer = built_in })
    (record { names = []; lists = []; selection = [] })

-- the list of a global file comes after the others, and may define macros; a missing file has none
abbrev pub state_with_global : List ℕ → ReadAnswer → EngineState → EngineState
state_with_global name (found bytes) s =
    state_with_list (record { allow_macros = true; source = name; root = None; buffer = bytes }) s
state_with_global name missing s = s
state_with_global name device_failed s = s
state_with_global name memory_refused s = s

-- the built-in list, and then the lists of the global files that were read
abbrev pub started_with : List FileRead → EngineState
started_with read = fold (λ s file. state_with_global file.name file.answer s) started read

abbrev pub engine_state : Inside → EngineState
engine_state e =
    record { names = e.collection.names; lists = lists_in e.search; selection = names_selected e.outcome.selection }

-- the answers that an outcome has for its selection
abbrev pub returned_by : Content → List Matched
returned_by held =
    if length held.selection == 0 then specified_among (found_in held.slots)
    else selected_in held.slots held.selection

abbrev pub engine_view : Inside → EngineContent
engine_view e =
    record {
      state = engine_state e;
      answers = if e.has_answers then Some (returned_by e.outcome) else None;
      found = if e.has_answers then e.outcome.slots else [];
      dropped = e.dropped.items;
    }

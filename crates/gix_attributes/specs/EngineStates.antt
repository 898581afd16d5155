-- What an engine holds, and what each call makes of it (own): lists are added and removed, names are selected, and paths are asked for.
use Rattle.std.specs.Prelude.{◌≡◌, ℕ, ◌-◌, ◌==◌, Bool, true, false, List, [], ◌∷◌, ◌++◌, length, map, filter, take, Option, None, Some}
use Rattle.std.specs.Prelude.{option_and_then, slice_get, if◌then◌else◌}
use Rattle.attr_glob.specs.Bases.{base_of}
use Rattle.attr_lists.specs.KeptLists.{dropped_lines, kept_list_where}
use Rattle.gix_attributes.specs.Lookups.{FindsAnswers, OfTheOnlyTable, answers_by_number, selected_answers}
use Rattle.attr_lists.specs.Numbers.{names_in, number_of, numbered_lines, with_names}
use Rattle.gix_attributes.specs.Registers.{last_definition}
use Rattle.attr_table.specs.Setting.{Setting}
use Rattle.attr_search.specs.Settings.{setting_of}
use Rattle.attr_search.specs.ListView.{Listed}
use Rattle.attr_search.specs.Slots.{Matched}
use Rattle.attr_table.specs.Table.{Slots}
use Rattle.attr_wildmatch.specs.declared.case.Case.{Case}
use Rattle.attr_lists.specs.declared.types.Dropped.{Dropped}
use Rattle.attr_lists.specs.declared.types.TrackedAssignment.{TrackedAssignment}
use Rattle.attr_text.specs.declared.state.State.{State}
use Rattle.attr_text.specs.declared.state.State.TheVariants.{Set, Unset, Value, Unspecified}

-- the names by number, the lists, and the selected names
pub record EngineState : Type 0 where
  pub names : List (List ℕ)
  pub lists : List Listed
  pub selection : List (List ℕ)

-- What a caller sees of an engine: what it looks paths up in; the answers to the last question, and what was found for it by
-- number, both none if the engine has no question or has changed since; and the lines that were dropped of the last list that was
-- added.
pub record EngineContent : Type 0 where
  pub state : EngineState
  pub answers : Option (List Matched)
  pub found : List (Option Matched)
  pub dropped : List Dropped

-- an attributes file to add: whether it may define macros, its path, the root of the repository, and its bytes
pub record AddedFile : Type 0 where
  pub allow_macros : Bool
  pub source : List ℕ
  pub root : Option (List ℕ)
  pub buffer : List ℕ

-- a list to add: whether it may define macros, what is told as its source, the base below which it applies, and its bytes
pub record AddedList : Type 0 where
  pub allow_macros : Bool
  pub source : List ℕ
  pub base : Option (List ℕ)
  pub buffer : List ℕ

-- a file is the list below the base that its path has
abbrev pub list_of_file : AddedFile → AddedList
list_of_file a =
    record { allow_macros = a.allow_macros; source = a.source; base = base_of a.source a.root; buffer = a.buffer }

-- no question was asked so far, and no list was added
abbrev pub unasked : EngineState → EngineContent
unasked s = record { state = s; answers = None; found = []; dropped = [] }

-- the list of the buffer becomes the last one, and its new names take the next numbers
abbrev pub state_with_list_below : AddedList → EngineState → EngineState
state_with_list_below a s =
    let kept = kept_list_where a.allow_macros a.buffer in
    let known = with_names s.names (names_in kept) in
    record {
      names = known;
      lists = s.lists ++ record { source = Some a.source; base = a.base; lines = numbered_lines known kept } ∷ [];
      selection = s.selection;
    }

abbrev pub state_with_list : AddedFile → EngineState → EngineState
state_with_list a s = state_with_list_below (list_of_file a) s

-- the last list is removed, if there is one; the names keep their numbers
abbrev pub state_without_last : EngineState → EngineState
state_without_last s = record s { lists = take (length s.lists - 1) s.lists }

-- these names are selected, in place of those before
abbrev pub state_selecting : List (List ℕ) → EngineState → EngineState
state_selecting selected s = record s { selection = selected }

-- the same engine without answers
abbrev pub without_answers : EngineContent → EngineContent
without_answers held = record held { answers = None; found = [] }

-- the same for all that a caller sees: a change leaves no answers
abbrev pub with_list_below : AddedList → EngineContent → EngineContent
with_list_below a held =
    record { state = state_with_list_below a held.state; answers = None; found = []; dropped = dropped_lines a.buffer }

abbrev pub with_addition : AddedFile → EngineContent → EngineContent
with_addition a held = with_list_below (list_of_file a) held

abbrev pub without_last : EngineContent → EngineContent
without_last held = record held { state = state_without_last held.state; answers = None; found = [] }

abbrev pub with_selection : List (List ℕ) → EngineContent → EngineContent
with_selection selected held = record held { state = state_selecting selected held.state; answers = None; found = [] }

-- the bodies by number: for each name its last definition in the lists
abbrev pub bodies_by : EngineState → List (List TrackedAssignment)
bodies_by s = map (last_definition s.lists) s.names

-- the setting of a path: the lists, and the bodies of their macros
abbrev pub path_setting : EngineState → List ℕ → Case → Option Bool → Setting
path_setting s path case is_dir = setting_of s.lists (bodies_by s) path case is_dir

-- the attribute is listed, and not with a `!`
abbrev pub is_specified : State → Bool
is_specified Set = true
is_specified Unset = true
is_specified (Value bytes) = true
is_specified Unspecified = false

abbrev pub specified_among : List Matched → List Matched
specified_among answers = filter (λ m. is_specified m.assignment.state) answers

-- The answers that are returned: without a selection those of all names, by number, without the unspecified ones; and otherwise one
-- for each selected name, in their order.
abbrev pub returned_answers : EngineState → Slots → List Matched
returned_answers s answers =
    if length s.selection == 0 then specified_among (answers_by_number s.names answers)
    else selected_answers s.names answers s.selection

-- what a question leaves: the answers are those of the only stable table, and what is found is of that table too
abbrev pub AnswersTo : List ℕ → Case → Option Bool → EngineContent → EngineContent → Type 0
AnswersTo path case is_dir before after =
    OfTheOnlyTable (path_setting before.state path case is_dir)
    (λ answers. after ≡ record before { answers = Some (returned_answers before.state answers); found = after.found })

abbrev pub FindsFor : List ℕ → Case → Option Bool → EngineContent → EngineContent → Type 0
FindsFor path case is_dir before after =
    OfTheOnlyTable (path_setting before.state path case is_dir)
    (λ answers. FindsAnswers before.state.names before.state.selection answers after.found)

-- the texts that the answers are for, in their order: the selected ones, and without a selection the names of the answers
abbrev pub texts_answered : EngineState → List Matched → List (List ℕ)
texts_answered s answers = if length s.selection == 0 then map (λ m. m.assignment.name) answers else s.selection

-- the number of the attribute that the answer at an index is for, if there is such an answer, and its text is a known name
abbrev pub number_answered : EngineContent → ℕ → Option ℕ
number_answered held index =
    option_and_then
    (λ answers. option_and_then (number_of held.state.names) (slice_get (texts_answered held.state answers) index))
    held.answers

-- What is true of each engine (own).
use Rattle.std.specs.Prelude.{◌≡◌, ◌==◌, ◌-◌, ℕ, Bool, true, false, List, [], map, length, Option, None, Some}
use Rattle.std.specs.Prelude.{option_map, slice_get, slice_index_or, unwrap_or}
use Rattle.attr_search.specs.ListView.{Listed}
use Rattle.attr_lists.specs.Collections.{Collection}
use Rattle.attr_lists.specs.ListViews.{Entry}
use Rattle.gix_attributes.specs.Contents.{Content, found_in, looked_up, names_selected, reset_content}
use Rattle.gix_attributes.specs.SearchViews.{Holds, list_ids_in, lists_in}
use Rattle.attr_search.specs.Settings.{HeldAreNamed}
use Rattle.attr_search.specs.Slots.{Matched}
use Rattle.gix_attributes.specs.EngineStates.{is_specified, specified_among}
use Rattle.gix_attributes.specs.Registration.{RegistersAlone}
use Rattle.gix_attributes.specs.inner.Needed.{IsNarrowed}
use Rattle.gix_attributes.specs.declared.engine.Engine.TheInside.{Inside}

-- the slots with these numbers have these matches
abbrev pub AreNumbersOf : List (Option Matched) → List Matched → List ℕ → Type 0
AreNumbersOf slots matches numbers = map (λ number. slice_index_or slots number None) numbers ≡ map Some matches

-- a slot has a match, and that is not unspecified
abbrev pub is_slot_specified : Option Matched → Bool
is_slot_specified None = false
is_slot_specified (Some m) = is_specified m.assignment.state

-- without a selection these are the numbers of the answers
abbrev pub AreNumbered : Content → List ℕ → Type 0
AreNumbered held numbers =
    (length held.selection == 0) ≡ true → AreNumbersOf held.slots (specified_among (found_in held.slots)) numbers

-- the lines of the last list, none if there is no list
abbrev pub last_lines : List Listed → List Entry
last_lines lists = unwrap_or (option_map (λ list. list.lines) (slice_get lists (length lists - 1))) []

-- a reset leaves the outcome as it is initialised with the collection
abbrev pub IsCurrentFor : Collection → Content → Type 0
IsCurrentFor known held = IsNarrowed known (names_selected held.selection) (reset_content held)

-- an outcome has the numbers of the selected names, and each answer has the name of its number
pub record IsOfNames (names : List (List ℕ)) (held : Content) : Type 0 where
  pub selection : held.selection ≡ looked_up names (names_selected held.selection)
  pub answers : HeldAreNamed names held.slots

-- The collection registers the lists of the search alone; a current outcome can be reset; and the answers are those of a current
-- outcome, numbered, and have the names of the collection.
pub record IsSoundEngine (e : Inside) : Type 0 where
  pub held : Holds e.collection e.search
  pub known : RegistersAlone e.collection (list_ids_in e.search) (lists_in e.search)
  pub current : e.is_current ≡ true → IsCurrentFor e.collection e.outcome
  pub answered : e.has_answers ≡ true → e.is_current ≡ true
  pub numbered : e.has_answers ≡ true → AreNumbered e.outcome e.numbers.items
  pub named : e.has_answers ≡ true → IsOfNames e.collection.names e.outcome

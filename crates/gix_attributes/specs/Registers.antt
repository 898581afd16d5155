-- Which lists are registered in a collection, and what macros they define (own; that a later definition replaces an earlier one:
-- the gitattributes page).
use Rattle.std.specs.Prelude.{◌≡◌, ℕ, ◌-◌, ◌==◌, not, List, [], ◌∷◌, length, map, filter, slice_get, unwrap_or}
use Rattle.std.specs.List.{flat_map}
use Rattle.attr_lists.specs.Collections.{MacroDefinition, Collection}
use Rattle.attr_lists.specs.Definitions.{IsSoundCollection, bodies_named, definition_of, definitions_for}
use Rattle.attr_lists.specs.declared.types.TrackedAssignment.{TrackedAssignment}
use Rattle.attr_search.specs.ListView.{Listed}
use Rattle.gix_attributes.specs.Additions.{RegisteredLists}

-- a list, and the list id under which it is registered
pub record Registered : Type 0 where
  pub list_id : ℕ
  pub list : Listed

-- lists with their list ids
abbrev pub with_list_ids : List ℕ → List Listed → List Registered
with_list_ids [] lists = []
with_list_ids (list_id ∷ list_ids) [] = []
with_list_ids (list_id ∷ list_ids) (list ∷ lists) = record { list_id = list_id; list = list } ∷ with_list_ids list_ids lists

-- the lists of a search, as they are registered
abbrev pub registered_in : RegisteredLists → List Registered
registered_in lists = with_list_ids lists.list_ids lists.lists

-- a collection without the lists of any search
abbrev pub no_lists : Collection → RegisteredLists
no_lists known = record { lists = []; list_ids = []; known = known }

-- the lists without those that are registered under this list id
abbrev pub without_registered : ℕ → List Registered → List Registered
without_registered list_id register = filter (λ r. not (r.list_id == list_id)) register

-- the definitions of the macro of this name in the lists, each under its list's id
abbrev pub definitions_under : List Registered → List ℕ → List MacroDefinition
definitions_under register name = flat_map (λ r. map (definition_of r.list_id) (bodies_named name r.list.lines)) register

-- a collection registers these lists, in the order of their addition, and no others
pub record RegistersExactly (known : Collection) (register : List Registered) : Type 0 where
  pub sound : IsSoundCollection known
  pub defined : (name : List ℕ) → definitions_for known name ≡ definitions_under register name

-- the bodies that lists define for the macro of this name, list by list and line by line
abbrev pub definitions_in : List Listed → List ℕ → List (List TrackedAssignment)
definitions_in lists name = flat_map (λ list. bodies_named name list.lines) lists

-- the body of the macro of this name: the last that the lists define, or the empty one
abbrev pub last_definition : List Listed → List ℕ → List TrackedAssignment
last_definition lists name =
    let bodies = definitions_in lists name in
    unwrap_or (slice_get bodies (length bodies - 1)) []

-- the lists of a register
abbrev pub lists_registered : List Registered → List Listed
lists_registered register = map (λ r. r.list) register

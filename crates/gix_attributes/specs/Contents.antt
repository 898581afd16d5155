-- The contents of an outcome: its slots, what it reports of them, and what initialising it leaves (own; what an unspecified
-- attribute is: the gitattributes page).
use Rattle.std.specs.Prelude.{◌≡◌, ℕ, ◌≤◌, Bool, true, false, ◌==◌, ◌||◌, List, [], drop, map, length, filter, replicate, is_some, slice_index_or, codes}
use Rattle.std.specs.Prelude.{Option, None, unwrap_or, option_map, option_and_then, if◌then◌else◌}
use Rattle.std.specs.List.{list_any, filter_map, range_with_len}
use Rattle.attr_text.specs.Names.{is_valid_name}
use Rattle.attr_text.specs.declared.state.State.TheVariants.{Unspecified}
use Rattle.attr_lists.specs.Collections.{Collection}
use Rattle.attr_lists.specs.Numbers.{number_of}
use Rattle.attr_lists.specs.Definitions.{macro_body}
use Rattle.attr_lists.specs.declared.types.TrackedAssignment.{TrackedAssignment}
use Rattle.attr_search.specs.Slots.{Matched}

-- a selected name, with its number in the collection, if that has the name
pub record Wanted : Type 0 where
  pub name : List ℕ
  pub number : Option ℕ

-- Whether the outcome was initialised, the match of each attribute, its body as a macro, and whether it is needed, by number, the
-- names that are selected, how many lines and assignments are kept for the matches, and how many items the last search took and how
-- many patterns it tested. All attributes are needed but in an engine's outcome: a search skips the others.
pub record Content : Type 0 where
  pub is_initialized : Bool
  pub slots : List (Option Matched)
  pub bodies : List (List TrackedAssignment)
  pub needed : List Bool
  pub selection : List Wanted
  pub kept : ℕ
  pub taken : ℕ
  pub tested : ℕ

-- a new outcome
abbrev pub empty_content : Content
empty_content = record { is_initialized = false; slots = []; bodies = []; needed = []; selection = []; kept = 0; taken = 0; tested = 0 }

-- the selected name has this number
abbrev pub has_number : ℕ → Wanted → Bool
has_number number wanted = unwrap_or (option_map (λ n. n == number) wanted.number) false

-- without a selection every number is wanted, and with one those of its names
abbrev pub is_wanted : List Wanted → ℕ → Bool
is_wanted selection number = length selection == 0 || list_any (has_number number) selection

-- the numbers for which an outcome wants a match
abbrev pub wanted_of : Content → List ℕ
wanted_of held = filter (is_wanted held.selection) (range_with_len 0 (length held.slots))

-- selected names with their numbers among the names of a collection
abbrev pub looked_up : List (List ℕ) → List (List ℕ) → List Wanted
looked_up names selected = map (λ name. record { name = name; number = number_of names name }) selected

abbrev pub names_selected : List Wanted → List (List ℕ)
names_selected selection = map (λ wanted. wanted.name) selection

-- the body of each name as a macro, by number: that of its last active definition
abbrev pub bodies_of : Collection → List (List TrackedAssignment)
bodies_of known = map (macro_body known) (range_with_len 0 (length known.names))

-- the contents of an outcome that is initialised with a collection and a selection: an empty slot for each name
abbrev pub initial_content : Collection → List (List ℕ) → Content
initial_content known selected =
    record {
      is_initialized = true;
      slots = map (λ name. None) known.names;
      bodies = bodies_of known;
      needed = replicate (length known.names) true;
      selection = looked_up known.names selected;
      kept = 0;
      taken = 0;
      tested = 0;
    }

-- the contents of an outcome after a reset
abbrev pub reset_content : Content → Content
reset_content held =
    record held { is_initialized = true; slots = map (λ slot. None) held.slots; kept = 0; taken = 0; tested = 0 }

-- there are as many slots as names, and the bodies are those of the collection
pub record IsCurrent (held : Content) (known : Collection) : Type 0 where
  pub slots : length held.slots ≡ length known.names
  pub bodies : held.bodies ≡ bodies_of known

-- the matches of the filled slots, by number
abbrev pub found_in : List (Option Matched) → List Matched
found_in slots = filter_map (λ slot. slot) slots

-- the number has a match, the first from the other number on
pub record IsNextFound (slots : List (Option Matched)) (from number : ℕ) : Type 0 where
  pub reached : from ≤ number
  pub filled : is_some (slice_index_or slots number None) ≡ true
  pub first : found_in (drop from slots) ≡ found_in (drop number slots)

-- the name that is reported for a selected text: `invalid` if the text is no valid name
abbrev pub reported_name : List ℕ → List ℕ
reported_name text = if is_valid_name text then text else codes "invalid"

-- the match of an attribute that no line names: it is unspecified, with an empty pattern of no source
abbrev pub unspecified : List ℕ → Matched
unspecified text =
    record {
      origin = record { text = []; mode = 0; wildcard = None; source = None; line = 0 };
      assignment = record { name = reported_name text; state = Unspecified };
      is_macro = false;
      cause = None;
    }

-- the match of a selected name: that of its number, if there is one
abbrev pub selected_answer : List (Option Matched) → Wanted → Matched
selected_answer slots wanted =
    unwrap_or (option_and_then (λ number. slice_index_or slots number None) wanted.number) (unspecified wanted.name)

-- the match of each selected name, in their order
abbrev pub selected_in : List (Option Matched) → List Wanted → List Matched
selected_in slots selection = map (selected_answer slots) selection

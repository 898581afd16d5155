-- What a lookup answers: for each attribute the answer of the only stable table, with the attribute's name, and which of these
-- answers `iter_selected` and `iter` return (own; the table, and what an unspecified attribute is: the gitattributes page).
use Rattle.std.specs.Prelude.{◌≡◌, ℕ, ◌<◌, ◌⊎◌, ⊤, Bool, false, List, [], ◌++◌, map, length, slice_index_or, All, Contains}
use Rattle.std.specs.Prelude.{Option, None, unwrap_or, option_map, option_and_then, MatchOption}
use Rattle.std.specs.List.{filter_map, range_with_len}
use Rattle.attr_wildmatch.specs.declared.case.Case.{Case}
use Rattle.attr_text.specs.declared.state.State.{State}
use Rattle.attr_text.specs.declared.state.State.TheVariants.{Set, Unset, Value, Unspecified}
use Rattle.attr_lists.specs.Collections.{Collection}
use Rattle.attr_lists.specs.Numbers.{number_of}
use Rattle.attr_table.specs.Cut.{IsSearched, answer_at, no_answers}
use Rattle.attr_table.specs.Setting.{Answer, Setting}
use Rattle.attr_table.specs.Setting.{State as TableState, Set as TableSet, Unset as TableUnset, Value as TableValue, Unspecified as TableUnspecified}
use Rattle.attr_table.specs.Table.{OneTable, Slots, Table}
use Rattle.attr_search.specs.ListView.{Listed}
use Rattle.attr_search.specs.Settings.{BodiesAreNamed, ListsAreNamed, setting_of}
use Rattle.attr_search.specs.Slots.{Matched}
use Rattle.gix_attributes.specs.Contents.{Content, bodies_of, found_in, initial_content, selected_in, unspecified, wanted_of}
use Rattle.gix_attributes.specs.Searching.{JoinsSearches, KeepsAllButAnswers, KeepsNames, answers_in, is_complete, setting_for}

-- What is looked up for a path: the selected names, or all if none is selected, in lists, the last of which takes precedence, by
-- the numbers and the macros of a collection.
pub record Lookup : Type 0 where
  pub known : Collection
  pub selected : List (List ℕ)
  pub lists : List Listed
  pub path : List ℕ
  pub case : Case
  pub is_dir : Option Bool

-- the lines that match, and the bodies of macros
abbrev pub setting_in : Lookup → Setting
setting_in q = setting_of q.lists (bodies_of q.known) q.path q.case q.is_dir

-- a state of the table is that of an attribute
abbrev pub attribute_state : TableState → State
attribute_state TableSet = Set
attribute_state TableUnset = Unset
attribute_state (TableValue bytes) = Value bytes
attribute_state TableUnspecified = Unspecified

-- the answer of the table for the attribute of this name: the pattern, source and line that decide, the state, whether the
-- attribute is a macro, and the macro whose body has the item, if one has
abbrev pub named_answer : List ℕ → Answer → Matched
named_answer name answer =
    record {
      origin = answer.origin;
      assignment = record { name = name; state = attribute_state answer.assignment.state };
      is_macro = answer.is_macro;
      cause = answer.cause;
    }

-- the answers of a table: those of its entries
abbrev pub table_answers : Setting → Table → Slots
table_answers s table number = option_and_then (answer_at s) (table number)

-- Exactly one table is stable, and this holds of its answers.
abbrev pub OfTheOnlyTable : Setting → (Slots → Type 0) → Type 0
OfTheOnlyTable s Holds = (one : OneTable s no_answers) × Holds (table_answers s one.0)

-- the answer for a text: that of its number, if the text is a name with a number that has an answer
abbrev pub answer_of_name : List (List ℕ) → Slots → List ℕ → Option Matched
answer_of_name names answers text = option_map (named_answer text) (option_and_then answers (number_of names text))

-- and otherwise the attribute is unspecified, with the name `invalid` if the text is no valid name
abbrev pub answer_for : List (List ℕ) → Slots → List ℕ → Matched
answer_for names answers text = unwrap_or (answer_of_name names answers text) (unspecified text)

-- the answers for selected texts, in their order
abbrev pub selected_answers : List (List ℕ) → Slots → List (List ℕ) → List Matched
selected_answers names answers selected = map (answer_for names answers) selected

-- the answers of all names that have one, by number
abbrev pub answers_by_number : List (List ℕ) → Slots → List Matched
answers_by_number names answers =
    filter_map
    (λ number. option_map (named_answer (slice_index_or names number [])) (answers number))
    (range_with_len 0 (length names))

-- some of the answers
abbrev pub ArePartOf : Slots → Slots → Type 0
ArePartOf part whole = (number : ℕ) → (part number ≡ None) ⊎ (part number ≡ whole number)

-- what is found for the attribute with this number is its answer, with the attribute's name
abbrev pub IsFound : List (List ℕ) → Slots → List (Option Matched) → ℕ → Type 0
IsFound names answers found number =
    slice_index_or found number None ≡ option_map (named_answer (slice_index_or names number [])) (answers number)

-- What is found by number are answers, and maybe not all of them. If no text is selected, there are those of all names, and
-- otherwise those of the selected texts that are names; and there is that of each macro that is the cause of one that is there.
pub record FindsAnswers (names texts : List (List ℕ)) (answers : Slots) (found : List (Option Matched)) : Type 0 where
  pub part : (number : ℕ) → (slice_index_or found number None ≡ None) ⊎ IsFound names answers found number
  pub all : length texts ≡ 0 → (number : ℕ) → number < length names → IsFound names answers found number
  pub selected : All (λ text. MatchOption (number_of names text) ⊤ (IsFound names answers found)) texts
  pub causes : (number : ℕ) → MatchOption (slice_index_or found number None) ⊤
      (λ m. MatchOption m.cause ⊤ (IsFound names answers found))

-- What an outcome returns of the answers: `iter_selected` (`selected_in`) the answer for each selected text, `iter` (`found_in`) what
-- was found until the search stopped. That is all if nothing is selected, or if some selected name has no answer; and otherwise
-- some of all, by number, with those for the selected names among them.
pub record ReturnsAnswers (q : Lookup) (held : Content) (answers : Slots) : Type 0 where
  pub selected : selected_in held.slots held.selection ≡ selected_answers q.known.names answers q.selected
  pub all : length q.selected ≡ 0 → found_in held.slots ≡ answers_by_number q.known.names answers
  pub unfinished : is_complete held ≡ false → found_in held.slots ≡ answers_by_number q.known.names answers
  pub found : (part : Slots) × ArePartOf part answers × (found_in held.slots ≡ answers_by_number q.known.names part)
  pub among : All
      (λ text. MatchOption (answer_of_name q.known.names answers text) ⊤ (Contains (found_in held.slots)))
      q.selected

-- An outcome that was initialised with the collection and the names, or reset since, and then filled by a search: what the calls
-- promise of it.
pub record IsLookedUp (q : Lookup) (before after : Content) : Type 0 where
  pub initialized : before ≡ initial_content q.known q.selected
  pub lists_named : ListsAreNamed q.known.names q.lists
  pub bodies_named : BodiesAreNamed q.known.names (bodies_of q.known)
  pub searched : IsSearched (setting_for q.lists before q.path q.case q.is_dir) (wanted_of before) (answers_in before) (answers_in after)
  pub named : KeepsNames q.lists before after
  pub kept : KeepsAllButAnswers before after

-- a further search for the path of a lookup, in other lists
pub record IsSearchedFurther (q : Lookup) (lists : List Listed) (before after : Content) : Type 0 where
  pub lists_named : ListsAreNamed q.known.names lists
  pub joined : JoinsSearches lists q.path q.case q.is_dir before after
  pub named : KeepsNames lists before after
  pub kept : KeepsAllButAnswers before after

-- the lookup in both: the lists that were searched first come last, since they take precedence
abbrev pub with_lists_searched : List Listed → Lookup → Lookup
with_lists_searched lists q = record q { lists = lists ++ q.lists }

-- an outcome for other names has answers for all of them if the one that was searched was for all names, or for these and more
abbrev pub SelectsNoMore : List (List ℕ) → List (List ℕ) → Type 0
SelectsNoMore selected others = (length selected ≡ 0) ⊎ ((0 < length others) × All (Contains selected) others)

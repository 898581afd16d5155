-- Sources that are told in place of labels (own): a caller adds each list with a label as its source, keeps the sources beside the
-- engine, and tells them in place of the labels.
use Rattle.std.specs.Prelude.{◌≡◌, ◌<◌, ℕ, true, List, All, IfSome, map, option_map, slice_get, unwrap_or, if◌then◌else◌}
use Rattle.std.specs.Fmt.{decimal}
use Rattle.std.specs.Str.{all_ascii_digits}
use Rattle.std.specs.Str.Parse.{digits_value}
use Rattle.attr_search.specs.ListView.{Listed}
use Rattle.attr_table.specs.Setting.{Origin}
use Rattle.attr_search.specs.Slots.{Matched}
use Rattle.gix_attributes.specs.EngineStates.{AddedList, EngineContent, EngineState}

-- a list with the source that stands for its label, and the same for all that has sources
abbrev pub list_told : (List ℕ → List ℕ) → Listed → Listed
list_told told list = record { source = option_map told list.source; base = list.base; lines = list.lines }

abbrev pub state_told : (List ℕ → List ℕ) → EngineState → EngineState
state_told told s = record { names = s.names; lists = map (list_told told) s.lists; selection = s.selection }

abbrev pub origin_told : (List ℕ → List ℕ) → Origin → Origin
origin_told told o =
    record { text = o.text; mode = o.mode; wildcard = o.wildcard; source = option_map told o.source; line = o.line }

abbrev pub match_told : (List ℕ → List ℕ) → Matched → Matched
match_told told m =
    record { origin = origin_told told m.origin; assignment = m.assignment; is_macro = m.is_macro; cause = m.cause }

abbrev pub content_told : (List ℕ → List ℕ) → EngineContent → EngineContent
content_told told held =
    record {
      state = state_told told held.state;
      answers = option_map (map (match_told told)) held.answers;
      found = map (option_map (match_told told)) held.found;
      dropped = held.dropped;
    }

abbrev pub addition_told : (List ℕ → List ℕ) → AddedList → AddedList
addition_told told a = record { allow_macros = a.allow_macros; source = told a.source; base = a.base; buffer = a.buffer }

-- the label with an index: its decimal digits
abbrev pub label_at : ℕ → List ℕ
label_at index = decimal index

-- the source whose index the label is; a text that is no such label stands for itself
abbrev pub source_at : List (List ℕ) → List ℕ → List ℕ
source_at sources label =
    if all_ascii_digits label then unwrap_or (slice_get sources (digits_value 10 label)) label else label

-- the text stays what it stands for if more sources are appended: it is no digits, or the index of a source that is there
abbrev pub IsLabelBelow : ℕ → List ℕ → Type 0
IsLabelBelow count text = (all_ascii_digits text ≡ true) → digits_value 10 text < count

abbrev pub AreLabelsBelow : ℕ → List Listed → Type 0
AreLabelsBelow count lists = All (λ list. IfSome list.source (IsLabelBelow count)) lists

-- What is told of an engine whose lists have labels: each label is replaced by the source of its list (own).
use Rattle.std.specs.Prelude.{ℕ, ◌^◌, ◌==◌, ◌&&◌, nat_lt, not, List, [], length, map, option_map, slice_index_or, unwrap_or, if◌then◌else◌}
use Rattle.std.specs.Prelude.{◌≡◌}
use Rattle.std.specs.List.{range_with_len}
use Rattle.std.specs.Option.{option_copied}
use Rattle.std.specs.Str.{all_ascii_digits}
use Rattle.std.specs.Str.Parse.{digits_value, without_leading_plus}
use Rattle.gix_attributes.specs.ListView.{Listed}
use Rattle.gix_attributes.specs.Slots.{Matched}
use Rattle.gix_attributes.specs.EngineStates.{AddedList, EngineContent}
use Rattle.gix_attributes.specs.Told.{content_told, match_told}
use Rattle.yektrod.specs.SourcedContents.{SourcedContent}
use Rattle.yektrod.specs.declared.sourced.SourcedList.{SourcedList}

-- the number of a text of decimal digits that fits into 64 bits, as its parse gives it, and 0 of another text
abbrev pub digits_number : List ℕ → ℕ
digits_number digits =
    if all_ascii_digits digits && not (length digits == 0) && nat_lt (digits_value 10 digits) (2 ^ 64)
    then digits_value 10 digits else 0

-- the index that a label says
abbrev pub list_number : List ℕ → ℕ
list_number label = digits_number (without_leading_plus label)

-- the index that the label of a list says
abbrev pub index_labelled : Listed → ℕ
index_labelled listed = unwrap_or (option_map list_number listed.source) 0

-- the label of each list says its index
abbrev pub AreLabelled : SourcedContent → Type 0
AreLabelled c = map index_labelled c.labelled.state.lists ≡ range_with_len 0 (length c.labelled.state.lists)

-- the source of the list with a label
abbrev pub source_in : List (List ℕ) → List ℕ → List ℕ
source_in sources label = slice_index_or sources (list_number label) []

-- what is told of the content: the sources in the place of the labels
abbrev pub told_content : SourcedContent → EngineContent
told_content c = content_told (source_in c.sources) c.labelled

-- and of an answer
abbrev pub told_match : SourcedContent → Matched → Matched
told_match c m = match_told (source_in c.sources) m

abbrev pub added_list_view : SourcedList → AddedList
added_list_view b =
    record { allow_macros = b.allow_macros; source = b.source.now; base = option_copied b.base; buffer = b.buffer.now }

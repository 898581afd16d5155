-- What C is told of all answers at once: a row for each, and the texts of all in one buffer (own).
use Rattle.std.specs.Prelude.{◌≡◌, ◌<◌, ℕ, ℤ, pos, ◌+◌, ◌-◌, ◌^◌, Bool, List, [], ◌++◌, length, map, take, drop, flat_map, Option, None, is_some, option_map}
use Rattle.std.specs.Prelude.{slice_index_or, unwrap_or, if◌then◌else◌}
use Rattle.std.specs.List.{range_with_len}
use Rattle.gix_attributes.specs.Contents.{unspecified}
use Rattle.gix_attributes.specs.Slots.{Matched}
use Rattle.gix_attributes.specs.EngineStates.{number_answered}
use Rattle.yektrod.specs.Played.{counted_length}
use Rattle.yektrod.specs.Told.{text_told}
use Rattle.yektrod.specs.Rows.{state_number}
use Rattle.yektrod.specs.Sourced.{list_number}
use Rattle.yektrod.specs.SourcedContents.{SourcedContent}
use Rattle.yektrod.specs.declared.row.Row.{Row}

-- what a number is that is missing
abbrev pub none : ℕ
none = 2 ^ 64 - 1

abbrev pub flags_by : Bool → Bool → Bool → ℕ
flags_by is_macro has_source has_cause =
    (if is_macro then 1 else 0) + (if has_source then 2 else 0) + (if has_cause then 4 else 0)

-- the texts of an answer: its name, its value, its source, its pattern, and the name of the macro that is its cause
pub record AnswerTexts : Type 0 where
  pub name : List ℕ
  pub value : List ℕ
  pub source : List ℕ
  pub pattern : List ℕ
  pub cause : List ℕ

-- the texts of an answer whose source is a label; one that is missing is empty
abbrev pub texts_told : SourcedContent → Matched → AnswerTexts
texts_told c m =
    let text : ℤ → List ℕ = λ which. unwrap_or (text_told c m which) [] in
    record { name = text (pos 0); value = text (pos 1); source = text (pos 2); pattern = text (pos 3); cause = text (pos 4) }

-- the texts, one directly after the other
abbrev pub full_text : AnswerTexts → List ℕ
full_text texts = texts.name ++ texts.value ++ texts.source ++ texts.pattern ++ texts.cause

-- the row of an answer with these texts for the attribute with this number, if the texts begin there
abbrev pub row_with : AnswerTexts → (number : Option ℕ) (at : ℕ) → Matched → Row
row_with texts number at m =
    record {
      state = state_number m.assignment.state;
      flags = flags_by m.is_macro (is_some m.origin.source) (is_some m.cause);
      line = if is_some m.origin.source then m.origin.line else 0;
      list = unwrap_or (option_map list_number m.origin.source) none;
      name = unwrap_or number none;
      cause = unwrap_or m.cause none;
      at = at;
      name_length = length texts.name;
      value_length = length texts.value;
      source_length = length texts.source;
      pattern_length = length texts.pattern;
      cause_length = length texts.cause;
    }

abbrev pub row_told : SourcedContent → (number : Option ℕ) (at : ℕ) → Matched → Row
row_told c number at m = row_with (texts_told c m) number at m

-- all texts of an answer
abbrev pub text_of : SourcedContent → Matched → List ℕ
text_of c m = full_text (texts_told c m)

abbrev pub zero_row : Row
zero_row =
    record {
      state = pos 0;
      flags = 0;
      line = 0;
      list = 0;
      name = 0;
      cause = 0;
      at = 0;
      name_length = 0;
      value_length = 0;
      source_length = 0;
      pattern_length = 0;
      cause_length = 0;
    }

-- each row is zero
abbrev pub AreZero : List Row → Type 0
AreZero rows = (i : ℕ) → i < length rows → slice_index_or rows i zero_row ≡ zero_row

-- the answers to the last question, whose sources are labels, and none after a change
abbrev pub answers_of : SourcedContent → List Matched
answers_of c = unwrap_or c.labelled.answers []

-- the answer with this number
abbrev pub labelled_answer : SourcedContent → ℕ → Matched
labelled_answer c i = slice_index_or (answers_of c) i (unspecified [])

-- what is found for the attribute with this number, whose source is a label
abbrev pub labelled_found : SourcedContent → ℕ → Option Matched
labelled_found c number = slice_index_or c.labelled.found number None

-- the texts of all answers, one directly after the other
abbrev pub text_of_all : SourcedContent → List ℕ
text_of_all c = flat_map (text_of c) (answers_of c)

-- where the texts of an answer begin: after those of the answers before it
abbrev pub offset_of : SourcedContent → ℕ → ℕ
offset_of c i = counted_length (flat_map (text_of c) (take i (answers_of c)))

-- the row of the answer with this number, whose texts begin there
abbrev pub row_at : SourcedContent → (at i : ℕ) → Row
row_at c at i = row_told c (number_answered c.labelled i) at (labelled_answer c i)

-- the rows of all answers, with the offsets of their texts
abbrev pub rows_of : SourcedContent → List Row
rows_of c = map (λ i. row_at c (offset_of c i) i) (range_with_len 0 (length (answers_of c)))

-- the rows of all answers without offsets
abbrev pub rows_alone : SourcedContent → List Row
rows_alone c = map (row_at c 0) (range_with_len 0 (length (answers_of c)))

-- what fits of the rows is laid to the front of a room
abbrev pub laid_rows : List Row → List Row → List Row
laid_rows room rows = take (length room) rows ++ drop (length rows) room

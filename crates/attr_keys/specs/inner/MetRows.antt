-- What is found of lines by their keys (own).
use Rattle.std.specs.Prelude.{◌≡◌, ◌<◌, ◌&&◌, ◌||◌, ◌⊎◌, ℕ, Bool, true, false, List, length, slice_get, slice_index}
use Rattle.attr_keys.specs.declared.key.Texts.{Texts}
use Rattle.attr_keys.specs.shared.KeyContents.{KeyContent}
use Rattle.attr_keys.specs.shared.Codes.{codes_of, row_codes}
use Rattle.attr_keys.specs.shared.Meeting.{content_met_at, text_has}
use Rattle.attr_keys.specs.shared.Rows.{AreInOrder, has_row, is_up_to}

-- those of the rows that pass the test were appended whose keys the text has
abbrev pub AppendsRows : (ℕ → Bool) → List KeyContent → List ℕ → List ℕ → List ℕ → Type 0
AppendsRows test keys text old new =
    (row : ℕ) → has_row new row ≡ (has_row old row || (test row && text_has text (slice_get keys row)))

-- the texts have the key of the line
abbrev pub IsMet : Texts → List KeyContent → ℕ → Type 0
IsMet texts keys row = content_met_at texts.fold texts.name.now texts.path.now (slice_get keys row) ≡ true

-- rows were appended that are met, among them all that are sought
pub record AppendsMet (Met Sought : ℕ → Type 0) (old new : List ℕ) : Type 0 where
  pub kept : (row : ℕ) → has_row old row ≡ true → has_row new row ≡ true
  pub sound : (row : ℕ) → has_row new row ≡ true → (has_row old row ≡ true) ⊎ Met row
  pub all : (row : ℕ) → Sought row → Met row → has_row new row ≡ true

-- of rows in order, the one at this index is not after the text, which does not have its key
pub record IsMissed (keys : List KeyContent) (rows text : List ℕ) (index : ℕ) : Type 0 where
  pub order : AreInOrder keys rows
  pub within : index < length rows
  pub up_to : is_up_to (codes_of false text true) (row_codes keys (slice_index rows index)) ≡ true
  pub lacks : text_has text (slice_get keys (slice_index rows index)) ≡ false

-- The kinds of lines (own).
use Rattle.std.specs.Prelude.{◌≡◌, ◌++◌, ◌∷◌, [], ◌&&◌, ℕ, Bool, true, false, List, Some, length, map, slice_get, if◌then◌else◌}
use Rattle.attr_keys.specs.declared.hashed.HashedRows.{HashedRows}
use Rattle.attr_keys.specs.declared.key.Subject.{Subject}
use Rattle.attr_keys.specs.declared.key.Subject.TheVariants.{Name, End, Path, Anything, Nothing}
use Rattle.attr_keys.specs.declared.kinds.KindRows.{KindRows}
use Rattle.attr_keys.specs.shared.KeyContents.{KeyContent}
use Rattle.attr_keys.specs.inner.Cases.{content_in_case}
use Rattle.attr_keys.specs.inner.Buckets.{IsHashed}
use Rattle.attr_keys.specs.shared.Meeting.{is_about, same_subject}
use Rattle.attr_keys.specs.shared.Rows.{has_row}

-- lines with such keys are kept
abbrev pub is_kept : Subject → Bool
is_kept Nothing = false
is_kept _ = true

-- the rows of a subject that are not found by their hashes
abbrev pub kind_rows : Subject → KindRows → List ℕ
kind_rows Name rows = rows.names.items
kind_rows End rows = rows.ends.items
kind_rows Path rows = rows.paths.items
kind_rows Anything rows = rows.others.items
kind_rows Nothing rows = []

-- one more row, of this subject, among those of a subject
abbrev pub rows_with : Subject → ℕ → Subject → List ℕ → List ℕ
rows_with subject row s rows = if is_kept s && same_subject s subject then rows ++ row ∷ [] else rows

-- Each of these rows is of its subject, and each line is there or found by its hash, if it is kept.
pub record AreKinds (fold : Bool) (keys : List KeyContent) (hashed : HashedRows) (rows : Subject → List ℕ) : Type 0 where
  pub counted : length hashed.links.items ≡ length keys
  pub of : (subject : Subject) (row : ℕ) → has_row (rows subject) row ≡ true → is_about subject (slice_get keys row) ≡ true
  pub all : (row : ℕ) (key : KeyContent) → slice_get keys row ≡ Some key → is_kept key.subject ≡ true →
      has_row (rows key.subject) row ≡ false → IsHashed fold key hashed row

-- lines with these keys by their kinds; unless one is noted, no key has a capital letter
pub record AreKindRows (keys : List KeyContent) (rows : KindRows) : Type 0 where
  pub kinds : AreKinds rows.fold keys rows.hashed (λ subject. kind_rows subject rows)
  pub lower : rows.has_capitals ≡ false → map (content_in_case true) keys ≡ keys

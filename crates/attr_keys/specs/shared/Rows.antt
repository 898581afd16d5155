-- Numbers of keys (own).
use Rattle.std.specs.Prelude.{◌≡◌, ◌≢◌, ℕ, ◌+◌, ◌<◌, ◌≤◌, Bool, false, not, List, length, map, nat_eq, ◌==◌, slice_index, true, take}
use Rattle.std.specs.Cmp.Lexicographic.{slice_cmp}
use Rattle.std.specs.List.{list_any, starts_with}
use Rattle.std.specs.List.Sorted.{IsSortedByKey}
use Rattle.std.specs.Ordering.{is_lt, nat_cmp}
use Rattle.attr_keys.specs.declared.prefixes.Prefixes.{Prefixes}
use Rattle.attr_keys.specs.shared.KeyContents.{KeyContent}
use Rattle.attr_keys.specs.shared.Codes.{codes_of, row_codes}

-- the number is among these
abbrev pub has_row : List ℕ → ℕ → Bool
has_row rows row = list_any (λ r. r == row) rows

-- the codes of the keys with these numbers don't fall
abbrev pub AreInOrder : List KeyContent → List ℕ → Type 0
AreInOrder keys rows = IsSortedByKey (row_codes keys) (slice_cmp nat_cmp) rows

-- the first codes of the keys with these numbers, 0 of an empty key
abbrev pub AreFirsts : List KeyContent → List ℕ → List ℕ → Type 0
AreFirsts keys rows firsts = firsts ≡ map (λ row. slice_index (row_codes keys row) 0) rows

-- the second codes are not after the first ones
abbrev pub is_up_to : List ℕ → List ℕ → Bool
is_up_to codes other = not (is_lt (slice_cmp nat_cmp codes other))

-- A text begins with the bytes that it has in common with a key, and their codes differ after these.
pub record IsCommon (text key common : List ℕ) : Type 0 where
  pub bound : length common ≤ length text
  pub begins : common ≡ take (length common) text
  pub apart : slice_index (codes_of false text true) (length common) ≢ slice_index key (length common)

-- Of the rows before this index none from the end on has a key with which the key of the row there begins.
pub record IsLink (keys : List KeyContent) (rows : List ℕ) (index end : ℕ) : Type 0 where
  pub bound : end ≤ index
  pub none : (k : ℕ) → end ≤ k → k < index →
      starts_with nat_eq (row_codes keys (slice_index rows index)) (row_codes keys (slice_index rows k)) ≡ false

-- each of these is the link of its row
abbrev pub AreLinks : List KeyContent → List ℕ → List ℕ → Type 0
AreLinks keys rows links = (index : ℕ) → index < length links → IsLink keys rows index (slice_index links index)

-- rows in the order of their keys, and the links of those before an index, which is one of theirs
pub record AreLinkedBefore (keys : List KeyContent) (index : ℕ) (rows links : List ℕ) : Type 0 where
  pub order : AreInOrder keys rows
  pub each : AreLinks keys rows links
  pub next : index ≡ length links
  pub within : index < length rows

-- rows in the order of their keys, each with its link
pub record AreAllLinked (keys : List KeyContent) (rows links : List ℕ) : Type 0 where
  pub order : AreInOrder keys rows
  pub each : AreLinks keys rows links
  pub all : length links ≡ length rows

-- rows in the order of their keys, with the first codes of few, and links between many
pub record ArePrefixes (keys : List KeyContent) (prefixes : Prefixes) : Type 0 where
  pub order : AreInOrder keys prefixes.rows.items
  pub few : length prefixes.rows.items ≤ 16 → AreFirsts keys prefixes.rows.items prefixes.firsts.items
  pub many : 16 < length prefixes.rows.items → AreLinks keys prefixes.rows.items prefixes.links.items
      × (length prefixes.links.items ≡ length prefixes.rows.items)

-- each number is below the one before it
abbrev pub IsFalling : List ℕ → Type 0
IsFalling rows = (k : ℕ) → k + 1 < length rows → slice_index rows (k + 1) < slice_index rows k

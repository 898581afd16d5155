-- The rows of each subject's keys, in their orders (own).
use Rattle.std.specs.Prelude.{[], ℕ, Bool, false, true, List}
use Rattle.attr_keys.specs.declared.key.Subject.{Subject}
use Rattle.attr_keys.specs.declared.key.Subject.TheVariants.{Name, End, Path, Anything, Nothing}
use Rattle.attr_keys.specs.declared.key_index.KeyRows.{KeyRows}
use Rattle.attr_keys.specs.shared.KeyContents.{KeyContent}
use Rattle.attr_keys.specs.inner.Cases.{seen_keys}
use Rattle.attr_keys.specs.inner.Kinds.{AreKinds}
use Rattle.attr_keys.specs.shared.Rows.{ArePrefixes}

-- the rows of a subject that are not found by their hashes
abbrev pub sorted_rows : Subject → KeyRows → List ℕ
sorted_rows Name rows = rows.names.rows.items
sorted_rows End rows = rows.ends.rows.items
sorted_rows Path rows = rows.paths.rows.items
sorted_rows Anything rows = rows.others.items
sorted_rows Nothing rows = []

-- rows by which the lines with these keys are found
pub record AreSorted (fold : Bool) (keys : List KeyContent) (rows : KeyRows) : Type 0 where
  pub kinds : AreKinds fold keys rows.hashed (λ subject. sorted_rows subject rows)
  pub names : ArePrefixes (seen_keys fold false keys) rows.names
  pub ends : ArePrefixes (seen_keys fold true keys) rows.ends
  pub paths : ArePrefixes (seen_keys fold false keys) rows.paths

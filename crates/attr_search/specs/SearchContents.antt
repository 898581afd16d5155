-- What a search fills and counts, as clauses see it (own).
use Rattle.std.specs.Prelude.{ℕ, Bool, List, Option}
use Rattle.attr_lists.specs.declared.types.TrackedAssignment.{TrackedAssignment}
use Rattle.attr_table.specs.Setting.{Origin}
use Rattle.attr_search.specs.Slots.{Matched}

-- the answers by number, which numbers are wanted and which are needed, the line that answered last, what each number is as a macro,
-- how many lines and assignments are kept for the answers, and how many items the last search took and how many lines it tested
pub record SearchContents : Type 0 where
  pub answers : List (Option Matched)
  pub wanted : List Bool
  pub needed : List Bool
  pub line : Option Origin
  pub bodies : List (List TrackedAssignment)
  pub kept : ℕ
  pub taken : ℕ
  pub tested : ℕ

-- What an outcome keeps for its answers: lines and items, by index, and the bodies of macros (own).
use Rattle.std.specs.Prelude.{◌≡◌, List, ◌++◌}
use Rattle.attr_lists.specs.declared.types.TrackedAssignment.{TrackedAssignment}
use Rattle.attr_table.specs.Setting.{Origin}

-- where the lines are that have answered, their items that are kept, and the bodies by number
pub record PartsContent : Type 0 where
  pub lines : List Origin
  pub items : List TrackedAssignment
  pub bodies : List (List TrackedAssignment)

-- a list may have more after what it had
abbrev pub Grows : {X : Type 0} → List X → List X → Type 0
Grows {X} old new = (more : List X) × (new ≡ old ++ more)

-- what was kept keeps its index, and bodies stay
pub record KeepsParts (old new : PartsContent) : Type 0 where
  pub lines : Grows old.lines new.lines
  pub items : Grows old.items new.items
  pub bodies : new.bodies ≡ old.bodies

-- What C gets of a whole script: its text, as far as there is room, and the length of it (own).
use Rattle.std.specs.Prelude.{◌≡◌, ℕ, ◌-◌, ◌^◌, List, ◌++◌, length, take, drop, min, Option}
use Rattle.gix_attributes.specs.EngineView.{started}
use Rattle.check_attr.specs.ScriptText.{Writes}

-- the length of a text, which stops at the largest `size_t`
abbrev pub counted_length : List ℕ → ℕ
counted_length text = min (length text) (2 ^ 64 - 1)

-- what fits of a text is laid to the front of a room
abbrev pub laid_in : List ℕ → List ℕ → List ℕ
laid_in room text = take (length room) text ++ drop (length text) room

-- a script writes this text over the built-in list, up to its first malformed record if it has one; the text is laid in the room,
-- and its length is told
pub record IsPlayed (script : List ℕ) (malformed : Option ℕ) (text old new : List ℕ) (written : ℕ) : Type 0 where
  pub of_script : Writes started 1 script malformed text
  pub laid : new ≡ laid_in old text
  pub told : written ≡ counted_length text

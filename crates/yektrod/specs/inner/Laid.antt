-- How a text is laid into a buffer (own).
use Rattle.std.specs.Prelude.{◌≡◌, ◌≤◌, ℕ, List, ◌++◌, length, drop}
use Rattle.yektrod.specs.Played.{counted_length}

-- A text is laid to the front of a buffer if it fits, and its length is told.
pub record IsLaid (buffer text new : List ℕ) (told : ℕ) : Type 0 where
  pub long : length new ≡ length buffer
  pub counted : told ≡ counted_length text
  pub laid : length text ≤ length buffer → new ≡ text ++ drop (length text) buffer

-- A text is laid behind what is laid in a buffer, and the length of both is told.
abbrev pub IsLaidBehind : (old : List ℕ) (at : ℕ) (text new : List ℕ) (told : ℕ) → Type 0
IsLaidBehind old at text new told =
    (buffer before : List ℕ) → IsLaid buffer before old at → IsLaid buffer (before ++ text) new told

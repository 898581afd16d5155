-- The lines of a buffer. The gitattributes page: "Each line in gitattributes file is of form: `pattern attr1 attr2 ...`". Line
-- ends are own: a line feed, and a carriage return directly before it, which git reads as a blank.
use Rattle.std.specs.Prelude.{◌≡◌, ◌≢◌, ℕ, ◌-◌, ◌<◌, true, not, ◌==◌, ◌⊎◌, List, [], ◌∷◌, ◌++◌, length, slice_index}
use Rattle.std.specs.List.{list_all}
use Rattle.attr_text.specs.Items.{carriage_return}

abbrev pub line_feed : ℕ
line_feed = 10

-- no line feed is in it
abbrev pub IsLine : List ℕ → Type 0
IsLine line = list_all (λ b. not (b == line_feed)) line ≡ true

-- a carriage return at its end would belong to the end
abbrev pub EndsNoReturn : List ℕ → Type 0
EndsNoReturn line = 0 < length line → slice_index line (length line - 1) ≢ carriage_return

-- The bytes are the lines joined by their ends: a carriage return and a line feed, or a line feed alone. The last line may have
-- no end, and is not empty then.
abbrev pub AreLines : List ℕ → List (List ℕ) → Type 0
AreLines bytes [] = bytes ≡ []
AreLines bytes (line ∷ others) = IsLine line
    × (((rest : List ℕ) × (bytes ≡ line ++ line_feed ∷ rest) × EndsNoReturn line × AreLines rest others)
    ⊎ ((rest : List ℕ) × (bytes ≡ line ++ carriage_return ∷ line_feed ∷ rest) × AreLines rest others)
    ⊎ ((bytes ≡ line) × (0 < length line) × (others ≡ [])))

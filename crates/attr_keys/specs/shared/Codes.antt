-- The codes of keys and of texts (own): a key's codes begin those of each text that has the key.
use Rattle.std.specs.Prelude.{ℕ, ◌+◌, Bool, false, List, [], ◌∷◌, ◌++◌, map, Option, Some, None, slice_get, if◌then◌else◌}
use Rattle.std.specs.Char.{to_ascii_lowercase}
use Rattle.attr_keys.specs.shared.KeyContents.{KeyContent}

-- the code of a byte, above those of an end
abbrev pub byte_code : Bool → ℕ → ℕ
byte_code fold b = if fold then to_ascii_lowercase b + 2 else b + 2

-- The codes of a text: those of its bytes, and 1 after them if nothing may follow. So no code is 0, as past the end.
abbrev pub codes_of : Bool → List ℕ → Bool → List ℕ
codes_of fold text is_whole = map (byte_code fold) text ++ (if is_whole then 1 ∷ [] else [])

abbrev pub key_codes : Option KeyContent → List ℕ
key_codes None = []
key_codes (Some key) = codes_of false key.text key.is_whole

-- the codes of the key with this number
abbrev pub row_codes : List KeyContent → ℕ → List ℕ
row_codes keys row = key_codes (slice_get keys row)

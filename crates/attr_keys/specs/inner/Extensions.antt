-- Extensions of names (own): a last dot and what follows it.
use Rattle.std.specs.Prelude.{ℕ, Bool, false, not, ◌&&◌, ◌==◌, List, [], ◌∷◌, length, Option, Some, None, if◌then◌else◌}
use Rattle.attr_keys.specs.declared.key.Subject.{Subject}
use Rattle.attr_keys.specs.declared.key.Subject.TheVariants.{Name, End, Path}
use Rattle.attr_keys.specs.shared.KeyContents.{KeyContent}

abbrev pub dot_byte : ℕ
dot_byte = 46

-- a name with the extension of what follows its first byte, or else the whole of it if that byte is a dot
abbrev pub or_from_dot : Option (List ℕ) → ℕ → List ℕ → Option (List ℕ)
or_from_dot (Some e) b bs = Some e
or_from_dot None b bs = if b == dot_byte then Some (b ∷ bs) else None

-- what stands from the last dot of a name on
abbrev pub extension : List ℕ → Option (List ℕ)
extension [] = None
extension (b ∷ bs) = or_from_dot (extension bs) b bs

-- there is a dot, and the first one is the last byte: so an end is an extension, reversed
abbrev pub is_reversed_extension : List ℕ → Bool
is_reversed_extension [] = false
is_reversed_extension (b ∷ bs) = if b == dot_byte then length bs == 0 else is_reversed_extension bs

-- a key of this kind is found by its hash: it is whole, or an extension
abbrev pub is_hashed_by : Subject → Bool → List ℕ → Bool
is_hashed_by Name whole text = whole
is_hashed_by Path whole text = whole
is_hashed_by End whole text = not whole && is_reversed_extension text
is_hashed_by _ whole text = false

abbrev pub is_hashed : KeyContent → Bool
is_hashed key = is_hashed_by key.subject key.is_whole key.text

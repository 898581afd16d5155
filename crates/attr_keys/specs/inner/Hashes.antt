-- Hashes of texts (own).
use Rattle.std.specs.Prelude.{◌≡◌, ℕ, ◌*◌, ◌<◌, ◌/◌, ◌^◌, List, length, Option, Some}
use Rattle.std.specs.Hash.FoldHasher as folding

-- the hash of a text by the fast hasher of std
abbrev pub text_hash : List ℕ → ℕ
text_hash text = folding.finish (folding.write folding.initial text)

-- the bucket of a hash, of so many
abbrev pub bucket_of : ℕ → ℕ → ℕ
bucket_of count hash = hash * count / 2 ^ 64

-- if there is a text, it is longer
abbrev pub IsLonger : ℕ → Option (List ℕ) → Type 0
IsLonger longest part = (text : List ℕ) → part ≡ Some text → longest < length text

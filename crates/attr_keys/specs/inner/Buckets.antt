-- Rows by the hashes of their keys (own).
use Rattle.std.specs.Prelude.{◌≡◌, ℕ, ◌-◌, ◌^◌, ◌<◌, ◌≤◌, Bool, true, List, length, Option, Some, slice_get, slice_index}
use Rattle.attr_keys.specs.declared.hashed.HashedRows.{HashedRows}
use Rattle.attr_keys.specs.declared.key.Subject.{Subject}
use Rattle.attr_keys.specs.declared.key.Subject.TheVariants.{Name, End}
use Rattle.attr_keys.specs.shared.KeyContents.{KeyContent}
use Rattle.attr_keys.specs.inner.Cases.{in_case, natural}
use Rattle.attr_keys.specs.inner.Extensions.{is_hashed}
use Rattle.attr_keys.specs.inner.Hashes.{bucket_of, text_hash}
use Rattle.attr_keys.specs.inner.Links.{IsLed}

-- the number of rows up to the last one in the bucket of a hash
abbrev pub head_of : HashedRows → ℕ → ℕ
head_of hashed hash = slice_index hashed.heads.items (bucket_of (length hashed.heads.items) hash)

-- the bucket may take one more row
pub record IsOpenBucket (hashed : HashedRows) (bucket : ℕ) : Type 0 where
  pub within : bucket < length hashed.counts.items
  pub few : slice_index hashed.counts.items bucket < 2 ^ 8 - 1

-- the key is one that is found by its hash, and this is its bucket, which has room
pub record IsBucketOf (fold : Bool) (key : KeyContent) (hashed : HashedRows) (bucket : ℕ) : Type 0 where
  pub kind : is_hashed key ≡ true
  pub room : IsOpenBucket hashed bucket
  pub within : bucket < length hashed.heads.items
  pub is : bucket ≡ bucket_of (length hashed.heads.items) (text_hash (in_case fold (natural key)))

-- of a longer text of the subject no hash is made
abbrev pub longest_of : Subject → HashedRows → ℕ
longest_of Name hashed = hashed.longest_name
longest_of End hashed = hashed.longest_extension
longest_of _ hashed = hashed.longest_path

-- a row of this key is found by its hash
pub record IsHashed (fold : Bool) (key : KeyContent) (hashed : HashedRows) (row : ℕ) : Type 0 where
  pub kind : is_hashed key ≡ true
  pub led : ∥ IsLed hashed.links.items (head_of hashed (text_hash (in_case fold (natural key)))) row ∥₁
  pub short : length key.text ≤ longest_of key.subject hashed

-- the line is found by the hash of its key
abbrev pub IsHashedAt : Bool → List KeyContent → HashedRows → ℕ → Type 0
IsHashedAt fold keys hashed row = (key : KeyContent) × (slice_get keys row ≡ Some key) × IsHashed fold key hashed row

-- the head of the bucket of a text, unless the text is longer than the longest key
pub record IsHeadOf (fold : Bool) (text : List ℕ) (longest : ℕ) (hashed : HashedRows) (head : ℕ) : Type 0 where
  pub within : head ≤ length hashed.links.items
  pub is : length text ≤ longest → head ≡ head_of hashed (text_hash (in_case fold text))

-- the same of an extension, if there is one
pub record IsEndHead (fold : Bool) (part : Option (List ℕ)) (hashed : HashedRows) (head : ℕ) : Type 0 where
  pub within : head ≤ length hashed.links.items
  pub of : (text : List ℕ) → part ≡ Some text → IsHeadOf fold text hashed.longest_extension hashed head

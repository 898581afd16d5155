-- The keys of bases, by which the lists of a path are found (own). Nothing here has to be believed.
use Rattle.std.specs.Prelude.{◌≡◌, ◌≢◌, ℕ, ◌<◌, ◌≤◌, Contains, List, [], length, take, Option, Some, None, slice_get, slice_index}
use Rattle.std.specs.Prelude.{if◌then◌else◌, ◌+◌, ◌-◌, ◌*◌, ◌%◌, ◌^◌, nat_eq, nat_le, true}
use Rattle.std.specs.List.{fold, list_any}
use Rattle.std.specs.Hash.DefaultHasher as sip
use Rattle.attr_wildmatch.specs.Bytes.{slash}
use Rattle.attr_wildmatch.specs.Slashes.{ends_in_slash}
use Rattle.attr_wildmatch.specs.declared.case.Case.TheVariants.{Fold}
use Rattle.attr_glob.specs.Folding.{folded}
use Rattle.attr_search.specs.declared.directory_keys.BaseKeys.{BaseKeys}

-- the bytes of a short text after a one, in 64 bits
abbrev pub short_key : List ℕ → ℕ
short_key text = fold (λ number byte. (number * 256 % 2 ^ 64 + byte) % 2 ^ 64) 1 text

-- the key of a text
abbrev pub text_key : List ℕ → ℕ
text_key text = if nat_le (length text) 8 then short_key text else sip.finish (sip.write sip.initial text)

-- the directory by which a list with a base is found: the base, if it ends in a slash, and else the empty one
abbrev pub base_directory : Option (List ℕ) → List ℕ
base_directory None = []
base_directory (Some base) = if ends_in_slash base then base else []

abbrev pub keys_of : List ℕ → BaseKeys
keys_of base = record { spelled = text_key base; folded = text_key (folded Fold base) }

-- the first part of a text that ends in its last slash, and nothing without one
pub record IsDirectoryOf (text directory : List ℕ) : Type 0 where
  pub front : directory ≡ take (length directory) text
  pub ends : 0 < length directory → slice_index directory (length directory - 1) ≡ slash
  pub rest : (offset : ℕ) → length directory ≤ offset → offset < length text → slice_index text offset ≢ slash

-- the keys of the directories in front of the text are there, of those that end before an offset
abbrev pub HasKeysBelow : List ℕ → ℕ → List ℕ → Type 0
HasKeysBelow text bound keys = (offset : ℕ) → offset < bound → slice_index text offset ≡ slash →
    list_any (nat_eq (text_key (take (offset + 1) text))) keys ≡ true

-- the numbers with this key are among those found
abbrev pub HasNumbersOf : List ℕ → List ℕ → ℕ → Type 0
HasNumbersOf keys found key = (number : ℕ) → slice_get keys number ≡ Some key → Contains found number

-- and so are those that have the key of the empty directory, or one of the first keys that are looked for
pub record GathersKeys (keys wanted : List ℕ) (bound : ℕ) (found : List ℕ) : Type 0 where
  pub empty : HasNumbersOf keys found (text_key [])
  pub each : (k : ℕ) → k < bound → HasNumbersOf keys found (slice_index wanted k)

-- Files that are kept in memory (own).
use Rattle.std.specs.Prelude.{◌≡◌, ℕ, ◌-◌, ◌==◌, List, Option, Some, None, MatchBool, ⊤, if◌then◌else◌}
use Rattle.std.specs.Str.{bytes_eq}
use Rattle.gix_attributes.specs.Answers.{ReadAnswer, found, missing, device_failed, memory_refused}
use Rattle.gix_attributes.specs.Failures.{one_more}

-- the contents of the files by their names, which of the next reads fails (0: none does), and how many reads failed so far
pub record MemoryFiles : Type 0 where
  pub files : List ℕ → Option (List ℕ)
  pub failing : ℕ
  pub failures : ℕ

-- a read returns what is stored under the name, unless it finds no memory
abbrev pub ReturnsStored : Option (List ℕ) → ReadAnswer → Type 0
ReturnsStored stored (found bytes) = stored ≡ Some bytes
ReturnsStored stored missing = stored ≡ None
ReturnsStored stored device_failed = ⊥
ReturnsStored stored memory_refused = ⊤

-- a read fails if it is the failing one, and else returns what is stored
abbrev pub MemoryReads : MemoryFiles → List ℕ → ReadAnswer → MemoryFiles → Type 0
MemoryReads old path answer new = MatchBool (old.failing == 1)
    ((answer ≡ device_failed) × (new ≡ record old { failing = 0; failures = one_more old.failures }))
    (ReturnsStored (old.files path) answer × (new ≡ record old { failing = old.failing - 1 }))

-- no file, and no read that fails
abbrev pub no_files : MemoryFiles
no_files = record { files = λ name. None; failing = 0; failures = 0 }

-- the files after these bytes are stored under a name, in place of those that were: no other file changes
abbrev pub with_contents : (List ℕ → Option (List ℕ)) → List ℕ → List ℕ → List ℕ → Option (List ℕ)
with_contents files path bytes name = if bytes_eq path name then Some bytes else files name

-- these bytes are stored under a name
abbrev pub StoresFile : List ℕ → List ℕ → MemoryFiles → MemoryFiles → Type 0
StoresFile path bytes old new = (name : List ℕ) → new.files name ≡ with_contents old.files path bytes name

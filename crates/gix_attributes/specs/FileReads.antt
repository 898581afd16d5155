-- Reads of files, one after the other (own).
use Rattle.std.specs.Prelude.{ℕ, Bool, true, false, ⊤, List, [], map, All}
use Rattle.std.specs.List.{FoldsTo}
use Rattle.gix_attributes.specs.Answers.{ReadAnswer, found, missing, device_failed, memory_refused}

-- a file that was read: its name, and what the read returned
pub record FileRead : Type 0 where
  pub name : List ℕ
  pub answer : ReadAnswer

-- these reads, in this order, take a source of files from one state to another
abbrev pub ReadInOrder : {F : Type 0} → (F → List ℕ → ReadAnswer → F → Type 0) → F → List FileRead → F → Type 0
ReadInOrder reads before files after = FoldsTo (λ old file new. reads old file.name file.answer new) before files after

-- the read was not refused: there is such a file, or there is none
abbrev pub IsAnswered : ReadAnswer → Type 0
IsAnswered (found bytes) = ⊤
IsAnswered missing = ⊤
IsAnswered device_failed = ⊥
IsAnswered memory_refused = ⊥

abbrev pub AreAnswered : List FileRead → Type 0
AreAnswered files = All (λ file. IsAnswered file.answer) files

-- the names of the files, in the order of the reads
abbrev pub names_read : List FileRead → List (List ℕ)
names_read files = map (λ file. file.name) files

-- there is such a file
abbrev pub file_exists : ReadAnswer → Bool
file_exists (found bytes) = true
file_exists missing = false
file_exists device_failed = false
file_exists memory_refused = false

-- the contents of the buffer after the read: those of the file, or nothing
abbrev pub contents_of : ReadAnswer → List ℕ
contents_of (found bytes) = bytes
contents_of missing = []
contents_of device_failed = []
contents_of memory_refused = []

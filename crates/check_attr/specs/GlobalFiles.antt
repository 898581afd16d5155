-- The lists that a script starts from, as they are read from the files of these names (own).
use Rattle.std.specs.Prelude.{◌≡◌, ◌≤◌, ◌⊎◌, ℕ, List, map, Result, IfErr}
use Rattle.std.specs.List.{flat_map, zip}
use Rattle.gix_attributes.specs.Additions.{IsIo, dropped_of}
use Rattle.gix_attributes.specs.Answers.{ReadAnswer}
use Rattle.gix_attributes.specs.Collections.{Collection, empty_collection}
use Rattle.gix_attributes.specs.declared.search.Dropped.{Dropped}
use Rattle.gix_attributes.specs.FileReads.{AreAnswered, FileRead, ReadInOrder, names_read}
use Rattle.gix_attributes.specs.EngineView.{started_with}
use Rattle.gix_attributes.specs.Failures.{Fails}
use Rattle.gix_attributes.specs.Globals.{RefusesGlobals}
use Rattle.gix_attributes.specs.declared.search.files.AddError.{AddError}
use Rattle.gix_attributes.specs.declared.search.files.AddError.TheVariants.{OutOfMemory}
use Rattle.check_attr.specs.ScriptText.{dropped_text}
use Rattle.check_attr.specs.ScriptStates.{GlobalLists}

-- the files of these names were read, one after the other, and each read found its file or found that there is none
pub record ReadsNames {F : Type 0} (reads : F → List ℕ → ReadAnswer → F → Type 0) (names : List (List ℕ))
    (old : F) (read : List FileRead) (new : F) : Type 0 where
  pub in_order : ReadInOrder reads old read new
  pub named : names_read read ≡ names
  pub answered : AreAnswered read

-- the global lists of these reads, and the lines that are dropped of each file
abbrev pub loaded_from : List FileRead → GlobalLists
loaded_from read =
    let state = started_with read in
    record { names = state.names; lists = state.lists; dropped = map (λ file. dropped_of file.answer) read }

-- after these reads the files of the names are refused, with this error
abbrev pub RefusedAt : List (List ℕ) → List FileRead → AddError → Type 0
RefusedAt names read error = (left : Collection) × RefusesGlobals names read empty_collection left error

-- the files of the names are refused with this error: by these reads, or because memory ran out for the text of the lines that
-- they drop
abbrev pub RefusesNames : {F : Type 0} → (F → List ℕ → ReadAnswer → F → Type 0) → List (List ℕ) → F → F → AddError → Type 0
RefusesNames reads names old new error =
    ((read : List FileRead) × ReadInOrder reads old read new × RefusedAt names read error)
    ⊎ ((error ≡ OutOfMemory) × (read : List FileRead) × ReadsNames reads names old read new)

-- a line for each line that the file of one of these names drops, file by file
abbrev pub all_dropped_text : List (List ℕ) → List (List Dropped) → List ℕ
all_dropped_text names dropped = flat_map (λ file. flat_map (dropped_text file.0) file.1) (zip names dropped)

-- the count of failures of the device does not fall, and if the device is to blame, it rose or was full
pub record CountsDevice {T : Type 0} (failed failed' : ℕ) (result : Result T AddError) : Type 0 where
  pub device : IfErr result (λ e. IsIo e → Fails failed failed')
  pub count : failed ≤ failed'

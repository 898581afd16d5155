-- The program `check_attr`: its arguments, its statuses, and its lines on standard error (own).
use Rattle.std.specs.Prelude.{◌≡◌, ◌⊎◌, ⊤, ℕ, List, [], ◌∷◌, ◌++◌, map, String, string_bytes, codes, Option, Some, None, Result, Ok, Err}
use Rattle.std.specs.Global.{Global}
use Rattle.std.specs.Fmt.{decimal}
use Rattle.std.specs.Io.KnownBytes.{Appends}
use Rattle.check_attr.specs.Failures.{AppendsFront, CountsOneEnd}
use Rattle.check_attr.specs.Outcomes.{UsesWriter}
use Rattle.check_attr.specs.LinesText.{WritesLines, WritesLinesFront}
use Rattle.gix_attributes.specs.declared.search.files.AddError.{AddError}
use Rattle.gix_attributes.specs.declared.search.files.AddError.TheVariants.{Io, OutOfMemory as NoMemory}
use Rattle.gix_attributes.specs.EngineStates.{EngineState}
use Rattle.check_attr.specs.ScriptText.{WritesFrontFrom, WritesTextFrom}
use Rattle.check_attr.specs.ScriptStates.{GlobalLists, initial_state}
use Rattle.check_attr.specs.declared.fault.Fault.{Fault}
use Rattle.check_attr.specs.declared.fault.Fault.TheVariants.{Record, Read, Write, OutOfMemory}

-- `--lines` is the one argument
abbrev pub IsLinesAlone : List (String Global) → Type 0
IsLinesAlone args = map string_bytes args ≡ codes "--lines" ∷ []

-- the status of a run that ended early
abbrev pub status_of : Fault → ℕ
status_of (Record k) = 2
status_of Read = 1
status_of Write = 1
status_of OutOfMemory = 1

-- the status of a run
abbrev pub status_after : {T : Type 0} → Result T Fault → ℕ
status_after (Ok x) = 0
status_after (Err fault) = status_of fault

-- the line on standard error for a run that ended early
abbrev pub fault_line : Fault → List ℕ
fault_line (Record k) = codes "check_attr: malformed record " ++ decimal k ++ codes "\n"
fault_line Read = codes "check_attr: reading failed\n"
fault_line Write = codes "check_attr: writing failed\n"
fault_line OutOfMemory = codes "check_attr: out of memory\n"

-- the line on standard error if the global files are not read
abbrev pub refusal_line : AddError → List ℕ
refusal_line (Io e) = codes "check_attr: cannot read a global file\n"
refusal_line NoMemory = codes "check_attr: out of memory\n"

-- A text was printed whole and flushed; or a beginning of it, and then a call of the writer failed, or a write took no byte of
-- some. The writer is seen by its contents, its counts of failures and of stalls, and whether it is flushed.
abbrev pub Prints : {E : Type 0} → (E → Option (List ℕ)) → (E → ℕ) → (E → ℕ) → (E → Type 0) → E → E → List ℕ → Type 0
Prints contents failed stalled Flushed old new text =
    (Appends (contents old) (contents new) text × Flushed new)
    ⊎ (CountsOneEnd (failed old) (failed new) (stalled old) (stalled new) × AppendsFront (contents old) (contents new) text)

-- nothing is printed for a run that succeeded, and a line for one that ended early
abbrev pub PrintsOutcome : {T E : Type 0} → (E → Option (List ℕ)) → (E → ℕ) → (E → ℕ) → (E → Type 0) → E → E → Result T Fault
    → Type 0
PrintsOutcome contents failed stalled Flushed old new (Ok x) = new ≡ old
PrintsOutcome contents failed stalled Flushed old new (Err fault) = Prints contents failed stalled Flushed old new (fault_line fault)

-- the lines text that was written, by the outcome of the run; there is no record
abbrev pub WritesLinesOutcome : {T : Type 0} → Option (List ℕ) → Option (List ℕ) → Option (List ℕ) → Result T Fault → Type 0
WritesLinesOutcome input old new (Ok x) = WritesLines input old new
WritesLinesOutcome input old new (Err (Record k)) = ⊥
WritesLinesOutcome input old new (Err Read) = new ≡ old
WritesLinesOutcome input old new (Err Write) = WritesLinesFront input old new
WritesLinesOutcome input old new (Err OutOfMemory) = WritesLinesFront input old new

-- the text that a script from this state has written, by the outcome of its run
abbrev pub WritesOutcomeFrom : {T : Type 0} → EngineState → Option (List ℕ) → Option (List ℕ) → Option (List ℕ) → Result T Fault
    → Type 0
WritesOutcomeFrom s script old new (Ok x) = WritesTextFrom s script None old new
WritesOutcomeFrom s script old new (Err (Record k)) = WritesTextFrom s script (Some k) old new
WritesOutcomeFrom s script old new (Err Read) = new ≡ old
WritesOutcomeFrom s script old new (Err Write) = WritesFrontFrom s script old new
WritesOutcomeFrom s script old new (Err OutOfMemory) = WritesFrontFrom s script old new

-- the same from these lists
abbrev pub WritesOutcome : {T : Type 0} → GlobalLists → Option (List ℕ) → Option (List ℕ) → Option (List ℕ) → Result T Fault
    → Type 0
WritesOutcome globals = WritesOutcomeFrom (initial_state globals)

-- what a script from this state does with its writer: what it writes, and what it says of the writer
pub record Plays {W : Type 0} (contents : W → Option (List ℕ)) (failed stalled : W → ℕ) (Flushed : W → Type 0) (s : EngineState)
    (script : Option (List ℕ)) (old new : W) (outcome : Result ⊤ Fault) : Type 0 where
  pub written : WritesOutcomeFrom s script (contents old) (contents new) outcome
  pub writer : UsesWriter failed stalled Flushed old new outcome

-- What records and scripts pass on (own).
use Rattle.std.specs.Prelude.{◌≡◌, ◌≢◌, ⊤, ℕ, List, ◌++◌, Option, Some, Result, Err, IfOk}
use Rattle.gix_attributes.specs.EngineStates.{EngineState}
use Rattle.check_attr.specs.Script.{Question, Record, ask}
use Rattle.check_attr.specs.ScriptText.{IsRecordText, Writes}
use Rattle.check_attr.specs.inner.Pieces.{Passes}
use Rattle.check_attr.specs.Program.{Plays}
use Rattle.check_attr.specs.declared.fault.Fault.{Fault}
use Rattle.check_attr.specs.declared.fault.Fault.TheVariants.{Read}

-- a text of this record was passed on after what was held
abbrev pub PassesRecord : {T W : Type 0} → (W → Option (List ℕ)) → (W → ℕ) → (W → ℕ) → EngineState → Record → W → W → List ℕ → List ℕ
    → Result T Fault → Type 0
PassesRecord contents failed stalled s r old new held held' result =
    (text : List ℕ) × IsRecordText s r text × Passes contents failed stalled old new held' (held ++ text) result

-- a text of the answers to this question was passed on after what was held
abbrev pub PassesAnswers : {T W : Type 0} → (W → Option (List ℕ)) → (W → ℕ) → (W → ℕ) → EngineState → Question → W → W → List ℕ → List ℕ
    → Result T Fault → Type 0
PassesAnswers contents failed stalled s q = PassesRecord contents failed stalled s (ask q)

-- a text of this script was passed on, and its first malformed record is the one that is returned
abbrev pub PassesScript : {W : Type 0} → (W → Option (List ℕ)) → (W → ℕ) → (W → ℕ) → EngineState → List ℕ → W → W → List ℕ
    → Result (Option ℕ) Fault → Type 0
PassesScript contents failed stalled s script old new held result =
    (malformed : Option ℕ) × (text : List ℕ) × Writes s 1 script malformed text × IfOk result (λ returned. returned ≡ malformed)
    × Passes contents failed stalled old new held text result

-- a script in memory was played, which reads nothing
pub record PlaysInMemory {W : Type 0} (contents : W → Option (List ℕ)) (failed stalled : W → ℕ) (Flushed : W → Type 0) (s : EngineState)
    (script : List ℕ) (old new : W) (outcome : Result ⊤ Fault) : Type 0 where
  pub plays : Plays contents failed stalled Flushed s (Some script) old new outcome
  pub read : outcome ≢ Err Read

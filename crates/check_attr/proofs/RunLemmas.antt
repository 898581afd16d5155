-- Scripts, record by record.
use Rattle.std.proofs.Common.{◌≡◌, ◌≢◌, ℕ, ◌+◌, List, [], ◌++◌, Option, Some, None, sym, subst, append_assoc}
use Rattle.std.proofs.lemmas.List.{append-nil}
use Rattle.check_attr.specs.Script.{Record, BeginsWithRecord, IsMalformed}
use Rattle.check_attr.specs.ScriptText.{IsRecordText, Writes, ends, breaks, goes_on}
use Rattle.gix_attributes.specs.EngineStates.{EngineState}
use Rattle.check_attr.specs.ScriptStates.{next_state}

-- from a start, this text and what the rest writes from now on, if its first record has this number, are the text of the script
abbrev pub Leaves : EngineState → List ℕ → EngineState → ℕ → List ℕ → List ℕ → Type 0
Leaves start script now number rest text =
    (malformed : Option ℕ) (others : List ℕ) → Writes now number rest malformed others → Writes start 1 script malformed (text ++ others)

-- one more record is applied
pub step : (start s now : EngineState) (script rest others : List ℕ) (number : ℕ) (r : Record) (text first : List ℕ)
    → Leaves start script s number rest text → BeginsWithRecord rest r others → IsRecordText s r first → now ≡ next_state r s
    → Leaves start script now (number + 1) others (text ++ first)
step start s now script rest others number r text first written read is_text now_is malformed last left =
    subst (Writes start 1 script malformed) (sym (append_assoc text first last))
    (written malformed (first ++ last)
    (goes_on r others first last read is_text (subst (λ x. Writes x (number + 1) others malformed last) now_is left)))

-- the next record is malformed
pub broken : (start s : EngineState) (script rest : List ℕ) (number : ℕ) (text : List ℕ) → Leaves start script s number rest text → rest ≢ []
    → IsMalformed rest → Writes start 1 script (Some number) text
broken start s script rest number text written some read =
    subst (Writes start 1 script (Some number)) (append-nil text) (written (Some number) [] (breaks some read))

-- no record is left
pub done : (start s : EngineState) (script rest : List ℕ) (number : ℕ) (text : List ℕ) → Leaves start script s number rest text → rest ≡ []
    → Writes start 1 script None text
done start s script rest number text written none =
    subst (Writes start 1 script None) (append-nil text) (written None [] (subst (λ xs. Writes s number xs None []) (sym none) ends))

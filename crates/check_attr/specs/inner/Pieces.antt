-- What is written of a text, and what is held of it to be written later (own).
use Rattle.std.specs.Prelude.{◌≡◌, ◌<◌, ℕ, List, ◌++◌, length, Option, Result, Ok, Err}
use Rattle.std.specs.Io.KnownBytes.{Appends}
use Rattle.check_attr.specs.Failures.{AppendsFront, CountsOneEnd}
use Rattle.check_attr.specs.declared.fault.Fault.{Fault}
use Rattle.check_attr.specs.declared.fault.Fault.TheVariants.{Record, Read, Write, OutOfMemory}

-- less than a piece is held: 65,536 bytes
abbrev pub FillsNoPiece : List ℕ → Type 0
FillsNoPiece held = length held < 65536

-- a beginning of the text is written, and the rest of it is held
abbrev pub IsWrittenOrHeld : Option (List ℕ) → Option (List ℕ) → List ℕ → List ℕ → Type 0
IsWrittenOrHeld old new held text = (written : List ℕ) × Appends old new written × (written ++ held ≡ text)

-- a text was passed on: what is not written is held; or a call of the writer or a growth was refused, and a beginning of the
-- text is written. The writer is seen by its contents and its counts of failures and of stalls.
abbrev pub Passes : {T W : Type 0} → (W → Option (List ℕ)) → (W → ℕ) → (W → ℕ) → W → W → List ℕ → List ℕ → Result T Fault → Type 0
Passes contents failed stalled old new held text (Ok x) =
    IsWrittenOrHeld (contents old) (contents new) held text × (failed new ≡ failed old) × (stalled new ≡ stalled old)
Passes contents failed stalled old new held text (Err (Record k)) = ⊥
Passes contents failed stalled old new held text (Err Read) = ⊥
Passes contents failed stalled old new held text (Err Write) =
    AppendsFront (contents old) (contents new) text × CountsOneEnd (failed old) (failed new) (stalled old) (stalled new)
Passes contents failed stalled old new held text (Err OutOfMemory) =
    AppendsFront (contents old) (contents new) text × (failed new ≡ failed old) × (stalled new ≡ stalled old)

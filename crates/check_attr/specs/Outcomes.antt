-- What the outcome of a run says of its reader and its writer (own).
use Rattle.std.specs.Prelude.{◌≡◌, ◌⊎◌, ⊤, ℕ, List, Option, Result, Ok, Err, IsErrOf}
use Rattle.std.specs.Io.KnownBytes.{IsAtEnd}
use Rattle.check_attr.specs.Failures.{CountsOne, CountsOneEnd}
use Rattle.check_attr.specs.declared.fault.Fault.{Fault}
use Rattle.check_attr.specs.declared.fault.Fault.TheVariants.{Record, Read, Write, OutOfMemory}

-- a reader counts one failure if a read ended the run, and else none
abbrev pub CountsReads : {T : Type 0} → Result T Fault → ℕ → ℕ → Type 0
CountsReads (Ok x) old new = new ≡ old
CountsReads (Err (Record k)) old new = new ≡ old
CountsReads (Err Read) old new = CountsOne old new
CountsReads (Err Write) old new = new ≡ old
CountsReads (Err OutOfMemory) old new = new ≡ old

-- a writer counts one failure or one stall if a write or a flush ended the run, and else none
abbrev pub CountsWrites : {T : Type 0} → Result T Fault → ℕ → ℕ → ℕ → ℕ → Type 0
CountsWrites (Ok x) failed failed' stalled stalled' = (failed' ≡ failed) × (stalled' ≡ stalled)
CountsWrites (Err (Record k)) failed failed' stalled stalled' = (failed' ≡ failed) × (stalled' ≡ stalled)
CountsWrites (Err Read) failed failed' stalled stalled' = (failed' ≡ failed) × (stalled' ≡ stalled)
CountsWrites (Err Write) failed failed' stalled stalled' = CountsOneEnd failed failed' stalled stalled'
CountsWrites (Err OutOfMemory) failed failed' stalled stalled' = (failed' ≡ failed) × (stalled' ≡ stalled)

-- a writer is flushed at the end, and before a malformed record is returned
abbrev pub IsFlushedAfter : {T : Type 0} → Result T Fault → Type 0 → Type 0
IsFlushedAfter (Ok x) Flushed = Flushed
IsFlushedAfter (Err (Record k)) Flushed = Flushed
IsFlushedAfter (Err Read) Flushed = ⊤
IsFlushedAfter (Err Write) Flushed = ⊤
IsFlushedAfter (Err OutOfMemory) Flushed = ⊤

-- nothing was written, or the whole input was read before
abbrev pub ReadsInputFirst : {W : Type 0} → Option (List ℕ) → W → W → Type 0
ReadsInputFirst left old new = (new ≡ old) ⊎ IsAtEnd left

-- a reader is at its end after a run, and before a malformed record is returned
abbrev pub IsReadAfter : {T : Type 0} → Result T Fault → Option (List ℕ) → Type 0
IsReadAfter (Ok x) left = IsAtEnd left
IsReadAfter (Err (Record k)) left = IsAtEnd left
IsReadAfter (Err Read) left = ⊤
IsReadAfter (Err Write) left = ⊤
IsReadAfter (Err OutOfMemory) left = ⊤

-- what a run says of its reader, which is seen by the bytes that it has left and its count of failures
pub record UsesReader {T R : Type 0} (remaining : R → Option (List ℕ)) (failed : R → ℕ) (old new : R) (outcome : Result T Fault) : Type 0 where
  pub counts : CountsReads outcome (failed old) (failed new)
  pub end : IsReadAfter outcome (remaining new)

-- what a run says of its writer, which is seen by its counts of failures and of stalls and whether it is flushed
pub record UsesWriter {W : Type 0} (failed stalled : W → ℕ) (Flushed : W → Type 0) (old new : W) (outcome : Result ⊤ Fault) : Type 0 where
  pub counts : CountsWrites outcome (failed old) (failed new) (stalled old) (stalled new)
  pub unread : IsErrOf outcome Read → new ≡ old
  pub flushed : IsFlushedAfter outcome (Flushed new)

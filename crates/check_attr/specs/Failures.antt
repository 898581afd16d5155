-- What a reader or a writer has done once a call of it failed: the bytes that it moved, and its counts (own).
use Rattle.std.specs.Prelude.{◌≡◌, ◌≤◌, ◌<◌, ◌⊎◌, ℕ, List, length, take, Option, Result, Ok, Err}
use Rattle.std.specs.Io.KnownBytes.{Appends, Consumes}
use Rattle.gix_attributes.specs.Failures.{one_more}

-- the bytes grow by a beginning of the text, if they are known
abbrev pub AppendsFront : Option (List ℕ) → Option (List ℕ) → List ℕ → Type 0
AppendsFront old new text = (n : ℕ) × Appends old new (take n text)

-- the bytes lose a beginning, if they are known
abbrev pub LosesFront : Option (List ℕ) → Option (List ℕ) → Type 0
LosesFront old new = (bytes : List ℕ) × Consumes old new bytes

-- one more is counted, and the count does not fall
abbrev pub CountsOne : ℕ → ℕ → Type 0
CountsOne old new = (new ≡ one_more old) × (old ≤ new)

-- a call is counted if it failed
abbrev pub CountsFailure : {T E : Type 0} → Result T E → ℕ → ℕ → Type 0
CountsFailure (Ok x) old new = new ≡ old
CountsFailure (Err e) old new = CountsOne old new

-- a write took no byte of some
abbrev pub IsStall : {E : Type 0} → Result ℕ E → List ℕ → Type 0
IsStall (Ok n) bytes = (n ≡ 0) × (0 < length bytes)
IsStall (Err e) bytes = ⊥

-- a write is counted if it took no byte of some
abbrev pub CountsStall : {E : Type 0} → Result ℕ E → List ℕ → ℕ → ℕ → Type 0
CountsStall result bytes old new = (IsStall result bytes → CountsOne old new) × ((IsStall result bytes → ⊥) → new ≡ old)

-- one call of a writer failed, or one write took no byte of some: the counts of failures and of stalls
abbrev pub CountsOneEnd : ℕ → ℕ → ℕ → ℕ → Type 0
CountsOneEnd failed failed' stalled stalled' =
    (CountsOne failed failed' × (stalled' ≡ stalled)) ⊎ ((failed' ≡ failed) × CountsOne stalled stalled')

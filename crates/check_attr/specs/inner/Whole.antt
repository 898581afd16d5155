-- All that is left is read, and a whole text is written (own).
use Rattle.std.specs.Prelude.{◌≡◌, ◌⊎◌, ℕ, List, Vec, Option, IfSome, Result, IfOk, IfErr, OnOk, OnErr}
use Rattle.std.specs.Global.{Global}
use Rattle.std.specs.Io.KnownBytes.{Appends}
use Rattle.check_attr.specs.Failures.{AppendsFront, LosesFront}
use Rattle.check_attr.specs.Outcomes.{CountsWrites, ReadsInputFirst, UsesReader}
use Rattle.check_attr.specs.declared.fault.Fault.{Fault}
use Rattle.check_attr.specs.declared.fault.Fault.TheVariants.{Read, Write, OutOfMemory}

-- all that was left was read; or a beginning of it, and then a read failed or memory ran out
pub record ReadsWhole {R : Type 0} (remaining : R → Option (List ℕ)) (failed : R → ℕ) (old new : R) (result : Result (Vec ℕ Global) Fault)
    : Type 0 where
  pub ok : IfOk result (λ input. IfSome (remaining old) (λ left. input.items ≡ left))
  pub rest : OnErr result (LosesFront (remaining old) (remaining new))
  pub reader : UsesReader remaining failed old new result
  pub only : IfErr result (λ fault. (fault ≡ Read) ⊎ (fault ≡ OutOfMemory))

-- what a run says of its reader, and that nothing was written, or the whole input was read before
pub record ReadsAllFirst {T R W : Type 0} (remaining : R → Option (List ℕ)) (failed : R → ℕ) (old new : R) (before after : W)
    (outcome : Result T Fault) : Type 0 where
  pub reader : UsesReader remaining failed old new outcome
  pub first : ReadsInputFirst (remaining new) before after

-- a text was written whole; or a beginning of it, and then a write failed or took no byte
pub record WritesWhole {T W : Type 0} (contents : W → Option (List ℕ)) (failed stalled : W → ℕ) (old new : W) (text : List ℕ)
    (result : Result T Fault) : Type 0 where
  pub ok : OnOk result (Appends (contents old) (contents new) text)
  pub front : OnErr result (AppendsFront (contents old) (contents new) text)
  pub counts : CountsWrites result (failed old) (failed new) (stalled old) (stalled new)
  pub only : IfErr result (λ fault. fault ≡ Write)

-- the same, and then the writer was flushed, or that failed
pub record WritesFlushed {T W : Type 0} (contents : W → Option (List ℕ)) (failed stalled : W → ℕ) (Flushed : W → Type 0) (old new : W)
    (text : List ℕ) (result : Result T Fault) : Type 0 where
  pub written : WritesWhole contents failed stalled old new text result
  pub flushed : OnOk result (Flushed new)

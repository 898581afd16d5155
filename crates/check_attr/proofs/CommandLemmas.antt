-- What the outcome of a run says, as one fact.
use Rattle.std.proofs.Common.{◌≡◌, Result, Ok, Err, subst, sym}
use Rattle.std.specs.Prelude.{IsErrAnd}
use Rattle.check_attr.specs.declared.fault.Fault.{Fault}

-- what holds of a fault holds of the result that has it
pub returned : {T : Type 0} (P : Result T Fault → Type 0) (r : Result T Fault) (fault : Fault) → IsErrAnd r (λ e. e ≡ fault) → P (Err fault) → P r
returned P (Ok x) fault is p = absurd is
returned P (Err e) fault is p = subst (λ f. P (Err f)) (sym is) p

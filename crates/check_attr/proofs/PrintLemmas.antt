-- A text that was written whole, or a beginning of it before the writer failed.
use Rattle.std.proofs.lemmas.Bool.Decides.{nat_tests}
use Rattle.std.proofs.Common.{◌≡◌, ◌+◌, ℕ, suc, List, ◌∷◌, ◌++◌, length, take, Option, Result, Ok, Err, ap, arith, subst}
use Rattle.std.proofs.KnownBytes.{Appends-trans}
use Rattle.std.proofs.Math.Seq.{take-append-add}
use Rattle.std.specs.Io.KnownBytes.{Appends}
use Rattle.std.specs.Prelude.{IsErrAnd}
use Rattle.check_attr.specs.Failures.{AppendsFront}
use Rattle.check_attr.specs.inner.Whole.{WritesFlushed, WritesWhole}
use Rattle.check_attr.specs.declared.fault.Fault.{Fault}

-- a beginning of a text is one of a longer text
front_fits : (n : ℕ) (xs ys : List ℕ) → (m : ℕ) × (take n xs ≡ take m (xs ++ ys))
front_fits (suc n) (x ∷ xs) ys = let rest = front_fits n xs ys in (suc rest.0, ap (λ zs. x ∷ zs) rest.1)
front_fits n xs ys = grind (arith, nat_tests)

pub Front-longer : (old new : Option (List ℕ)) (xs ys : List ℕ) → AppendsFront old new xs → AppendsFront old new (xs ++ ys)
Front-longer old new xs ys front = let fits = front_fits front.0 xs ys in (fits.0, subst (Appends old new) fits.1 front.1)

-- a beginning of a text after another text
pub Front-later : (old mid new : Option (List ℕ)) (xs ys : List ℕ) → Appends old mid xs → AppendsFront mid new ys → AppendsFront old new (xs ++ ys)
Front-later old mid new xs ys first front =
    (length xs + front.0, grind (arith, nat_tests, take-append-add xs ys front.0, Appends-trans old mid new xs, first, front.1))

-- texts that are written one after the other
module _ {W : Type 0} {contents : W → Option (List ℕ)} {failed stalled : W → ℕ} {Flushed : W → Type 0} where
  pub writes_then : {T U : Type 0} {a b c : W} {text : List ℕ} (xs ys : List ℕ) {u : U} {r : Result T Fault} → text ≡ xs
      → WritesWhole contents failed stalled a b text (Ok u) → WritesFlushed contents failed stalled Flushed b c ys r
      → WritesFlushed contents failed stalled Flushed a c (xs ++ ys) r
  writes_then {a = a} {b} {c} xs ys is first then =
      let old = contents a in let mid = contents b in let new = contents c in
      let ok = subst (Appends old mid) is first.ok in record {
        written = record {
          ok = grind (arith, nat_tests, Appends-trans old mid new xs ys ok, then.written.ok);
          front = grind (arith, nat_tests, Front-later old mid new xs ys ok, then.written.front);
          counts = grind (arith, nat_tests, first.counts, then.written.counts);
          only = then.written.only;
        };
        flushed = then.flushed;
      }

  pub writes_front : {T U : Type 0} {a b : W} {text : List ℕ} (xs ys : List ℕ) {e : Fault} {r : Result T Fault} → text ≡ xs
      → WritesWhole {T = U} contents failed stalled a b text (Err e) → IsErrAnd r (λ x. x ≡ e)
      → WritesFlushed contents failed stalled Flushed a b (xs ++ ys) r
  writes_front {a = a} {b} xs ys {r = Ok x} is first same = absurd same
  writes_front {a = a} {b} xs ys {r = Err f} is first same = record {
    written = record {
      ok = tt;
      front = Front-longer (contents a) (contents b) xs ys (subst (AppendsFront (contents a) (contents b)) is first.front);
      counts = grind (arith, nat_tests);
      only = grind (arith, nat_tests);
    };
    flushed = tt;
  }

-- Texts that are passed on in pieces, and the counts of a writer.
use Rattle.std.proofs.lemmas.Bool.Decides.{nat_tests}
use Rattle.std.proofs.Common.{◌≡◌, ℕ, List, [], ◌∷◌, ◌++◌, length, Option, Result, Ok, Err}
use Rattle.std.proofs.Common.{refl, ◌∙◌, subst, arith, append_assoc}
use Rattle.std.specs.Prelude.{IfOk, IsErrAnd}
use Rattle.std.specs.List.{flat_map}
use Rattle.std.proofs.KnownBytes.{Appends-nil, Appends-trans}
use Rattle.std.proofs.Math.Seq.{take-append_seam, take-length}
use Rattle.std.specs.Io.KnownBytes.{Appends, Keeps}
use Rattle.check_attr.specs.Failures.{AppendsFront, CountsOneEnd}
use Rattle.check_attr.specs.inner.Pieces.{IsWrittenOrHeld, Passes}
use Rattle.check_attr.specs.inner.PassedText.{PassesRecord}
use Rattle.gix_attributes.specs.EngineStates.{EngineState}
use Rattle.check_attr.specs.Script.{Record as ReadRecord}
use Rattle.check_attr.proofs.TextLemmas.{some_record_text}
use Rattle.check_attr.specs.declared.fault.Fault.{Fault}
use Rattle.check_attr.specs.declared.fault.Fault.TheVariants.{Record, Read, Write, OutOfMemory}
use Rattle.check_attr.proofs.PrintLemmas.{Front-later, Front-longer}

-- one end after calls that were not counted
end_after : (f f' f'' s s' s'' : ℕ) → (f' ≡ f) × (s' ≡ s) → CountsOneEnd f' f'' s' s'' → CountsOneEnd f f'' s s''
end_after f f' f'' s s' s'' same one = subst (λ a. CountsOneEnd a f'' s s'') same.0 (subst (λ b. CountsOneEnd f' f'' b s'') same.1 one)

-- ---- what is written, and what is held

written_front : (old new : Option (List ℕ)) (held text : List ℕ) → IsWrittenOrHeld old new held text → AppendsFront old new text
written_front old new held text w = (length w.0, grind (arith, nat_tests, take-append_seam w.0 held, w.1, w.2))

-- the whole text is written, and then the writer keeps its bytes
pub whole_kept : (a b c : Option (List ℕ)) (text : List ℕ) → Appends a b text → Keeps b c → AppendsFront a c text
whole_kept a b c text p q = (length text, grind (arith, nat_tests, take-length text, p, q))

pub nothing_written : (a : Option (List ℕ)) (text : List ℕ) → AppendsFront a a text
nothing_written a text = (0, Appends-nil a)

-- a refusal has no value
pub no_value : {T E : Type 0} (r : Result T E) (P : E → Type 0) (Q : T → Type 0) → IsErrAnd r P → IfOk r Q
no_value r P Q is = grind (arith, nat_tests)

-- of a text a beginning is held, and the text that is held is passed on
module _ {W : Type 0} (contents : W → Option (List ℕ)) (failed stalled : W → ℕ) where
  abbrev pub Holds : W → W → List ℕ → List ℕ → Type 0
  Holds old new held text =
      IsWrittenOrHeld (contents old) (contents new) held text × (failed new ≡ failed old) × (stalled new ≡ stalled old)

  pub holds_all : (a : W) (text : List ℕ) → Holds a a text text
  holds_all a text = (([], Appends-nil (contents a), refl), refl, refl)

  pub front_on : (a b c : W) (held text : List ℕ) → Holds a b held text → AppendsFront (contents b) (contents c) held
      → AppendsFront (contents a) (contents c) text
  front_on a b c held text h front =
      subst (AppendsFront (contents a) (contents c)) h.0.2 (Front-later (contents a) (contents b) (contents c) h.0.0 held h.0.1 front)

  pub passes_on : {T : Type 0} (a b c : W) (held held' text : List ℕ) (r : Result T Fault) → Holds a b held text
      → Passes contents failed stalled b c held' held r → Passes contents failed stalled a c held' text r
  passes_on a b c held held' text (Ok x) h p =
      let joined : (h.0.0 ++ p.0.0) ++ held' ≡ text = grind (arith, nat_tests, append_assoc) in
      ((h.0.0 ++ p.0.0, Appends-trans (contents a) (contents b) (contents c) h.0.0 p.0.0 h.0.1 p.0.1, joined), p.1 ∙ h.1, p.2 ∙ h.2)
  passes_on a b c held held' text (Err (Record k)) h p = p
  passes_on a b c held held' text (Err Read) h p = p
  passes_on a b c held held' text (Err Write) h p =
      (front_on a b c held text h p.0, end_after (failed a) (failed b) (failed c) (stalled a) (stalled b) (stalled c) (h.1, h.2) p.1)
  passes_on a b c held held' text (Err OutOfMemory) h p = (front_on a b c held text h p.0, p.1 ∙ h.1, p.2 ∙ h.2)

  -- more is held, and more is the text
  pub holds_more : (a b : W) (held text more : List ℕ) → Holds a b held text → Holds a b (held ++ more) (text ++ more)
  holds_more a b held text more h = grind (arith, nat_tests, append_assoc)

  pub passes_more : {T : Type 0} (a b : W) (held text more : List ℕ) (r : Result T Fault) → Passes contents failed stalled a b held text r
      → Passes contents failed stalled a b (held ++ more) (text ++ more) r
  passes_more a b held text more (Ok x) p = holds_more a b held text more p
  passes_more a b held text more (Err e) p = grind (arith, nat_tests, Front-longer)

  -- a refusal is returned
  passes_as : (T : Type 0) {U : Type 0} (a b : W) (held held' text : List ℕ) (e : Fault) (r : Result U Fault) → IsErrAnd r (λ x. x ≡ e)
      → Passes {T = T} contents failed stalled a b held text (Err e) → Passes contents failed stalled a b held' text r
  passes_as T a b held held' text e r is p = grind (arith, nat_tests)

  -- no more of the text was passed on, and the refusal is returned
  pub stopped : (T : Type 0) {U : Type 0} (a b c : W) (held held' kept more text : List ℕ) (e : Fault) (r : Result U Fault)
      → IsErrAnd r (λ x. x ≡ e) → Holds a b (held ++ more) text → Passes {T = T} contents failed stalled b c held' held (Err e)
      → Passes contents failed stalled a c kept text r
  stopped T a b c held held' kept more text e r is h p =
      passes_as T a c (held' ++ more) kept text e r is
      (passes_on {T = T} a b c (held ++ more) (held' ++ more) text (Err e) h (passes_more {T = T} b c held' held more (Err e) p))

  -- memory was refused
  pub passes_refused : {U : Type 0} (a b : W) (held held' text : List ℕ) (r : Result U Fault) → IsErrAnd r (λ x. x ≡ OutOfMemory)
      → Holds a b held text → Passes contents failed stalled a b held' text r
  passes_refused {U} a b held held' text r is h =
      passes_as U a b held held' text OutOfMemory r is (written_front (contents a) (contents b) held text h.0, h.1, h.2)

  pub refused_record : {U : Type 0} (s : EngineState) (r : ReadRecord) (a : W) (held : List ℕ) (result : Result U Fault)
      → IsErrAnd result (λ x. x ≡ OutOfMemory) → PassesRecord contents failed stalled s r a a held held result
  refused_record s r a held result is =
      let some = some_record_text s r in (some.0, some.1, passes_refused a a _ held (held ++ some.0) result is (holds_all a _))

  -- of a text for each thing of a list that of the first thing is held
  pub pushed : {X : Type 0} (f : X → List ℕ) (a b : W) (held held' text : List ℕ) (x : X) (all xs : List X)
      → Holds a b (held ++ flat_map f all) text → all ≡ x ∷ xs → held' ≡ held ++ f x → Holds a b (held' ++ flat_map f xs) text
  pushed f a b held held' text x all xs h first more = grind (arith, nat_tests, append_assoc)

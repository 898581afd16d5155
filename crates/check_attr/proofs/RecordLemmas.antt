-- A script is that of its records.
use Rattle.std.proofs.lemmas.Bool.Decides.{nat_tests}
use Rattle.std.proofs.Common.{◌≡◌, ℕ, ◌+◌, List, [], ◌∷◌, ◌++◌, length, All, Option, Some, None, refl, sym, ap, ◌∙◌, subst, arith, append_assoc}
use Rattle.std.proofs.lemmas.List.{append-nil}
use Rattle.std.proofs.lemmas.List.Elements.{All-cons, All-head, All-tail}
use Rattle.check_attr.specs.Script.{Record, spelled, script_of, CanBeWritten, BeginsWithRecord}
use Rattle.check_attr.specs.ScriptText.{IsTextOfRecords, EndsAt, Writes, WritesRecords, ends, breaks, goes_on}
use Rattle.gix_attributes.specs.EngineStates.{EngineState}
use Rattle.check_attr.specs.ScriptStates.{next_state}
use Rattle.check_attr.proofs.SpellingLemmas.{one_record, shorter}

-- the script of records has the text of the first one in front
begins_of : (r : Record) (records : List Record) (script rest : List ℕ) → All CanBeWritten (r ∷ records)
    → script ≡ script_of (r ∷ records) ++ rest → BeginsWithRecord script r (script_of records ++ rest)
begins_of r records script rest can e = (All-head CanBeWritten r records can, e ∙ append_assoc (spelled r) (script_of records) rest)

at_end : (s : EngineState) (number : ℕ) (script : List ℕ) (malformed : Option ℕ) (text : List ℕ) → EndsAt (number + 0) script malformed
    → text ≡ []
    → Writes s number script malformed text
at_end s number script None text end none =
    subst (λ xs. Writes s number xs None text) (sym end) (subst (Writes s number [] None) (sym none) ends)
at_end s number script (Some k) text end none =
    let same : number ≡ k = omega (arith, end.2) in
    subst (λ n. Writes s number script (Some n) text) same (subst (Writes s number script (Some number)) (sym none) (breaks end.0 end.1))

writes-from : (records : List Record) (s : EngineState) (number : ℕ) (script rest : List ℕ) (malformed : Option ℕ) (text : List ℕ)
    → All CanBeWritten records → script ≡ script_of records ++ rest → EndsAt (number + length records) rest malformed
    → IsTextOfRecords s records text → Writes s number script malformed text
writes-from [] s number script rest malformed text can e end is_text = grind (arith, nat_tests, at_end)
writes-from (r ∷ records) s number script rest malformed text can e end is_text =
    let left = writes-from records (next_state r s) (number + 1) (script_of records ++ rest) rest malformed is_text.1
    (All-tail CanBeWritten r records can) refl (subst (λ n. EndsAt n rest malformed) (omega arith) end) is_text.4 in
    subst (Writes s number script malformed) (sym is_text.2)
    (goes_on r (script_of records ++ rest) is_text.0 is_text.1 (begins_of r records script rest can e) is_text.3 left)

pub writes_records : (s : EngineState) (number : ℕ) (script : List ℕ) (malformed : Option ℕ) (text : List ℕ)
    → WritesRecords s number script malformed text → Writes s number script malformed text
writes_records s number script malformed text w = writes-from w.0 s number script w.1 malformed text w.2 w.3 w.4 w.5

pub has_records : (s : EngineState) (number : ℕ) (script : List ℕ) (malformed : Option ℕ) (text : List ℕ)
    → Writes s number script malformed text → WritesRecords s number script malformed text
has_records s number _ _ _ ends = grind (arith, nat_tests)
has_records s number script _ _ (breaks some bad) = grind (arith, nat_tests)
has_records s number script malformed _ (goes_on r rest first others begins is_text left) =
    let o = has_records (next_state r s) (number + 1) rest malformed others left in (
      r ∷ o.0,
      o.1,
      All-cons CanBeWritten r o.0 begins.0 o.2,
      begins.1 ∙ (ap (λ xs. spelled r ++ xs) o.3 ∙ sym (append_assoc (spelled r) (script_of o.0) o.1)),
      subst (λ n. EndsAt n o.1 malformed) (omega arith) o.4,
      (first, others, refl, is_text, o.5),
    )

-- what is written for a script of records is the text of these
IsReadBack : EngineState → List Record → Option ℕ → List ℕ → Type 0
IsReadBack s records malformed text = (malformed ≡ None) × IsTextOfRecords s records text

read_back : (records : List Record) (s : EngineState) (number : ℕ) (script : List ℕ) (malformed : Option ℕ) (text : List ℕ)
    → All CanBeWritten records → script ≡ script_of records ++ [] → Writes s number script malformed text → IsReadBack s records malformed text
unfolding IsReadBack
read_back [] s number _ _ _ can e ends = (refl, refl)
read_back [] s number _ _ _ can e (breaks some bad) = absurd (some e)
read_back [] s number script _ _ can e (goes_on r rest first others begins is_text left) = grind (arith, nat_tests, shorter)
read_back (r ∷ records) s number _ _ _ can e ends = grind (arith, nat_tests, shorter, begins_of)
read_back (r ∷ records) s number script _ _ can e (breaks some bad) = grind (arith, nat_tests, begins_of r records script)
read_back (r ∷ records) s number script malformed _ can e (goes_on q rest first others begins is_text left) =
    let fact2 = one_record script r q (script_of records ++ []) rest (begins_of r records script [] can e) begins in
    let fact = read_back records (next_state r s) (number + 1) rest malformed others (All-tail CanBeWritten r records can) in
    grind (arith, nat_tests, fact2, begins_of r records script, All-tail CanBeWritten r records can, fact)

pub records_read_back : (s : EngineState) (number : ℕ) (records : List Record) (malformed : Option ℕ) (text : List ℕ) → All CanBeWritten records
    → Writes s number (script_of records) malformed text → (malformed ≡ None) × IsTextOfRecords s records text
unfolding IsReadBack
records_read_back s number records malformed text can w =
    read_back records s number (script_of records) malformed text can (sym (append-nil (script_of records))) w

pub records_written : (s : EngineState) (number : ℕ) (records : List Record) (text : List ℕ) → All CanBeWritten records
    → IsTextOfRecords s records text → Writes s number (script_of records) None text
records_written s number records text can is_text =
    writes-from records s number (script_of records) [] None text can (sym (append-nil (script_of records))) refl is_text

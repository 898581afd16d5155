-- A script writes one text.
use Rattle.std.proofs.lemmas.Bool.Decides.{nat_tests}
use Rattle.std.proofs.Common.{◌≡◌, ◌≢◌, ℕ, zero, suc, ◌+◌, ◌≤◌, List, [], ◌∷◌, ◌++◌, length, Option, Some, None, refl, arith}
use Rattle.std.specs.List.{flat_map}
use Rattle.gix_attributes.specs.Table.{Table}
use Rattle.gix_attributes.specs.Cut.{no_answers}
use Rattle.attr_table.proofs.ForCallers.{OneTable-of}
use Rattle.check_attr.specs.Script.{Question, Record, add, pop, names, ask, BeginsWithRecord}
use Rattle.check_attr.specs.inner.ScriptParts.{IsFirstRecord, record_of}
use Rattle.check_attr.specs.ScriptText.{IsRecordText, OneText, Writes, entry_text, ends, breaks, goes_on}
use Rattle.gix_attributes.specs.EngineStates.{EngineState, path_setting, returned_answers}
use Rattle.gix_attributes.specs.Lookups.{table_answers}
use Rattle.gix_attributes.specs.Setting.{Setting}
use Rattle.check_attr.specs.ScriptStates.{next_state}
use Rattle.check_attr.proofs.SpellingLemmas.{first_record, one_record, shorter}

abbrev asked_setting : EngineState → Question → Setting
asked_setting s q = path_setting s q.path q.case q.is_dir

-- the answers to a question, by a table
abbrev answers_by : EngineState → Question → Table → List ℕ
answers_by s q table = flat_map (entry_text q.form s.names q.path) (returned_answers s (table_answers (asked_setting s q) table))

-- each record writes something
pub some_record_text : (s : EngineState) (r : Record) → (text : List ℕ) × IsRecordText s r text
some_record_text s (add a) = (_, refl)
some_record_text s pop = (_, refl)
some_record_text s (names selected) = (_, refl)
some_record_text s (ask q) =
    let one = OneTable-of (asked_setting s q) no_answers in
    (answers_by s q one.0, (one, refl))

-- and nothing else
one_record_text : (s : EngineState) (r : Record) (text other : List ℕ) → IsRecordText s r text → IsRecordText s r other → text ≡ other
one_record_text s r text other is is_other = grind (arith, nat_tests)

abbrev HasText : EngineState → ℕ → List ℕ → Type 0
HasText s number script = (malformed : Option ℕ) × (text : List ℕ) × Writes s number script malformed text

text_by : (s : EngineState) (number : ℕ) (script : List ℕ) → script ≢ [] → (o : Option (Record × List ℕ)) → IsFirstRecord script o
    → ((r : Record) (rest : List ℕ) → BeginsWithRecord script r rest → HasText (next_state r s) (number + 1) rest) → HasText s number script
text_by s number script some None read others = (Some number, [], breaks some read)
text_by s number script some (Some p) read others =
    let first = some_record_text s p.0 in
    let left = others p.0 p.1 read in
    (left.0, first.0 ++ left.1, goes_on p.0 p.1 first.0 left.1 read first.1 left.2)

-- each script writes something, however long it is
some_text : (longest : ℕ) (s : EngineState) (number : ℕ) (script : List ℕ) → length script ≤ longest → HasText s number script
some_text longest s number [] short = (None, [], ends)
some_text zero s number (b ∷ bs) short = absurd (omega (arith, short))
some_text (suc longest) s number (b ∷ bs) short =
    grind (arith, nat_tests, text_by s number (b ∷ bs), first_record (b ∷ bs) (record_of (b ∷ bs)) refl, shorter (b ∷ bs), some_text longest)

-- and nothing else
one_text : (s : EngineState) (number : ℕ) (script : List ℕ) (malformed other_malformed : Option ℕ) (text other : List ℕ)
    → Writes s number script malformed text → Writes s number script other_malformed other → (other_malformed ≡ malformed) × (other ≡ text)
one_text _ _ _ _ _ _ _ ends ends = (refl, refl)
one_text _ _ _ _ _ _ _ ends (breaks some read) = absurd (some refl)
one_text _ _ _ _ _ _ _ ends (goes_on r rest first others read is_text left) = absurd (omega (arith, shorter [] r rest read))
one_text _ _ _ _ _ _ _ (breaks some read) ends = absurd (some refl)
one_text _ _ _ _ _ _ _ (breaks some read) (breaks some' read') = (refl, refl)
one_text _ _ _ _ _ _ _ (breaks some read) (goes_on r rest first others read' is_text left) = absurd (read r rest read')
one_text _ _ _ _ _ _ _ (goes_on r rest first others read is_text left) ends = absurd (omega (arith, shorter [] r rest read))
one_text _ _ _ _ _ _ _ (goes_on r rest first others read is_text left) (breaks some read') = absurd (read' r rest read)
one_text s number script malformed other_malformed _ _ (goes_on r rest first others read is_text left)
    (goes_on r' rest' first' others' read' is_text' left') =
    let fact = one_text (next_state r s) (number + 1) rest malformed other_malformed others others' left in
    grind (arith, nat_tests, one_record script r r' rest rest' read read', one_record_text s r first' first, fact)

pub OneText-of : (s : EngineState) (number : ℕ) (script : List ℕ) → OneText s number script
OneText-of s number script = grind (arith, nat_tests, some_text (length script) s number script, one_text s number script)

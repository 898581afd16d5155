-- The text that a script writes (own): the lines that its lists drop, and for each question the answers of the only stable
-- table. The form of answers is that of the git-check-attr page; the form with origins is own.
use Rattle.std.specs.Prelude.{◌≡◌, ◌≢◌, ℕ, ◌+◌, List, [], ◌∷◌, ◌++◌, length, Option, Some, None, IfSome, slice_index_or, codes, All}
use Rattle.std.specs.List.{flat_map}
use Rattle.std.specs.Fmt.{decimal}
use Rattle.std.specs.Io.KnownBytes.{Appends}
use Rattle.gix_attributes.specs.Patterns.{written}
use Rattle.gix_attributes.specs.KeptLists.{dropped_lines}
use Rattle.gix_attributes.specs.declared.search.Dropped.{Dropped}
use Rattle.gix_attributes.specs.declared.search.DropReason.{DropReason}
use Rattle.gix_attributes.specs.declared.search.DropReason.TheVariants.{MacroName, NegativePattern, InvalidName, Reserved}
use Rattle.gix_attributes.specs.declared.State.{State}
use Rattle.gix_attributes.specs.declared.State.TheVariants.{Set, Unset, Value, Unspecified}
use Rattle.gix_attributes.specs.Setting.{Origin}
use Rattle.gix_attributes.specs.Slots.{Matched}
use Rattle.gix_attributes.specs.Lookups.{OfTheOnlyTable}
use Rattle.gix_attributes.specs.EngineStates.{EngineState, path_setting, returned_answers}
use Rattle.check_attr.specs.Script.{Question, Record, add, pop, names, ask, CanBeWritten, BeginsWithRecord, IsMalformed, script_of}
use Rattle.check_attr.specs.Failures.{AppendsFront}
use Rattle.check_attr.specs.ScriptStates.{GlobalLists, next_state, initial_state}
use Rattle.check_attr.specs.declared.script.Form.{Form}
use Rattle.check_attr.specs.declared.script.Form.TheVariants as forms

-- why a line is dropped
abbrev pub reason_word : DropReason → List ℕ
reason_word MacroName = codes "macro-name"
reason_word NegativePattern = codes "negative"
reason_word InvalidName = codes "attribute-name"
reason_word Reserved = codes "reserved"

-- the text of a line that a source drops
abbrev pub dropped_text : List ℕ → Dropped → List ℕ
dropped_text source dropped =
    codes "dropped: " ++ source ++ codes ":" ++ decimal dropped.line ++ codes ": " ++ reason_word dropped.reason ++ codes "\n"

-- the state as the page writes it
abbrev pub info : State → List ℕ
info Set = codes "set"
info Unset = codes "unset"
info (Value bytes) = bytes
info Unspecified = codes "unspecified"

-- the name of the macro whose body gave an answer, or `-` if the line itself gave it
abbrev pub cause_text : List (List ℕ) → Option ℕ → List ℕ
cause_text known None = codes "-"
cause_text known (Some number) = slice_index_or known number []

-- the origin of an answer: its source and line number, its pattern, and the macro; an answer without a line has none
abbrev pub origin_text : List (List ℕ) → Origin → Option ℕ → Option (List ℕ) → List ℕ
origin_text known origin cause None = codes "-\t-\t-"
origin_text known origin cause (Some source) =
    source ++ codes ":" ++ decimal origin.line ++ codes "\t"
    ++ written (record { text = origin.text; mode = origin.mode; wildcard = origin.wildcard }) ++ codes "\t"
    ++ cause_text known cause

-- a path, a name and its state
abbrev pub answer_text : List ℕ → List ℕ → List ℕ → State → List ℕ
answer_text path separator name state = path ++ separator ++ name ++ separator ++ info state

-- an answer as a line, with NUL after each part, or as a line with the origin
abbrev pub entry_text : Form → List (List ℕ) → List ℕ → Matched → List ℕ
entry_text forms.Line known path m = answer_text path (codes ": ") m.assignment.name m.assignment.state ++ codes "\n"
entry_text forms.Zero known path m = answer_text path (codes "\0") m.assignment.name m.assignment.state ++ codes "\0"
entry_text forms.Origin known path m =
    answer_text path (codes ": ") m.assignment.name m.assignment.state ++ codes "\t" ++ origin_text known m.origin m.cause m.origin.source
    ++ codes "\n"

-- an entry for each answer that an engine in this state returns, which are those of the only stable table
abbrev pub IsAnswerText : EngineState → Question → List ℕ → Type 0
IsAnswerText s q text =
    OfTheOnlyTable (path_setting s q.path q.case q.is_dir)
    (λ answers. text ≡ flat_map (entry_text q.form s.names q.path) (returned_answers s answers))

-- the text that a record writes
abbrev pub IsRecordText : EngineState → Record → List ℕ → Type 0
IsRecordText s (add a) text = text ≡ flat_map (dropped_text a.source) (dropped_lines a.buffer)
IsRecordText s pop text = text ≡ []
IsRecordText s (names selected) text = text ≡ []
IsRecordText s (ask q) text = IsAnswerText s q text

-- the text that a script writes from a state, if its first record has this number: the texts of its records up to the first
-- malformed one, and the number of that one
pub data Writes : EngineState → ℕ → List ℕ → Option ℕ → List ℕ → Type 0 where
  ends : {s : EngineState} {n : ℕ} → Writes s n [] None []
  breaks : {s : EngineState} {n : ℕ} {script : List ℕ} → script ≢ [] → IsMalformed script → Writes s n script (Some n) []
  goes_on : {s : EngineState} {n : ℕ} {script : List ℕ} {malformed : Option ℕ} (r : Record) (rest first others : List ℕ) →
      BeginsWithRecord script r rest → IsRecordText s r first → Writes (next_state r s) (n + 1) rest malformed others →
      Writes s n script malformed (first ++ others)

-- the text of a script from a state was appended, whole or up to its malformed record of this number
abbrev pub AppendsTextFrom : EngineState → List ℕ → Option ℕ → Option (List ℕ) → Option (List ℕ) → Type 0
AppendsTextFrom s script malformed old new = (text : List ℕ) × Writes s 1 script malformed text × Appends old new text

-- a beginning of that text was appended
abbrev pub AppendsFrontFrom : EngineState → List ℕ → Option (List ℕ) → Option (List ℕ) → Type 0
AppendsFrontFrom s script old new =
    (malformed : Option ℕ) × (text : List ℕ) × Writes s 1 script malformed text × AppendsFront old new text

-- the same, if the bytes of the script are known
abbrev pub WritesTextFrom : EngineState → Option (List ℕ) → Option ℕ → Option (List ℕ) → Option (List ℕ) → Type 0
WritesTextFrom s script malformed old new = IfSome script (λ known. AppendsTextFrom s known malformed old new)

abbrev pub WritesFrontFrom : EngineState → Option (List ℕ) → Option (List ℕ) → Option (List ℕ) → Type 0
WritesFrontFrom s script old new = IfSome script (λ known. AppendsFrontFrom s known old new)

-- the same from the global lists
abbrev pub WritesText : GlobalLists → Option (List ℕ) → Option ℕ → Option (List ℕ) → Option (List ℕ) → Type 0
WritesText globals = WritesTextFrom (initial_state globals)

abbrev pub WritesTextFront : GlobalLists → Option (List ℕ) → Option (List ℕ) → Option (List ℕ) → Type 0
WritesTextFront globals = WritesFrontFrom (initial_state globals)

-- the text that records write from a state, one after the other
abbrev pub IsTextOfRecords : EngineState → List Record → List ℕ → Type 0
IsTextOfRecords s [] text = text ≡ []
IsTextOfRecords s (r ∷ records) text =
    (first others : List ℕ) × (text ≡ first ++ others) × IsRecordText s r first × IsTextOfRecords (next_state r s) records others

-- nothing is left, or bytes without a record in front; if they have one, it would have this number
abbrev pub EndsAt : ℕ → List ℕ → Option ℕ → Type 0
EndsAt number rest None = rest ≡ []
EndsAt number rest (Some malformed) = (rest ≢ []) × IsMalformed rest × (malformed ≡ number)

-- a script is that of records that can be written, up to its end or to a malformed record, and the text is that of these records
abbrev pub WritesRecords : EngineState → ℕ → List ℕ → Option ℕ → List ℕ → Type 0
WritesRecords s number script malformed text =
    (records : List Record) × (rest : List ℕ) × All CanBeWritten records × (script ≡ script_of records ++ rest)
    × EndsAt (number + length records) rest malformed × IsTextOfRecords s records text

-- a script writes exactly one text from a state, and has at most one first malformed record
abbrev pub OneText : EngineState → ℕ → List ℕ → Type 0
OneText s number script =
    (malformed : Option ℕ) × (text : List ℕ) × Writes s number script malformed text
    × ((m : Option ℕ) (t : List ℕ) → Writes s number script m t → (m ≡ malformed) × (t ≡ text))

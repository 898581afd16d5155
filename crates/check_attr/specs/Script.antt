-- The script that `check_attr` reads (own): records, one after the other, and the text of each.
use Rattle.std.specs.Prelude.{◌≡◌, ℕ, ◌^◌, ◌<◌, ⊤, Bool, true, false, Option, Some, None, IfSome, unwrap_or, codes}
use Rattle.std.specs.Prelude.{List, [], ◌∷◌, ◌++◌, length, All, flat_map}
use Rattle.std.specs.List.{join_with_byte}
use Rattle.std.specs.Fmt.{decimal}
use Rattle.std.specs.Str.{IsUtf8}
use Rattle.gix_attributes.specs.declared.glob.pattern.Case.{Case}
use Rattle.gix_attributes.specs.declared.glob.pattern.Case.TheVariants.{Sensitive, Fold}
use Rattle.gix_attributes.specs.LinesJoined.{line_feed, IsLine}
use Rattle.gix_attributes.specs.EngineStates.{AddedFile}
use Rattle.check_attr.specs.declared.script.Form.{Form}
use Rattle.check_attr.specs.declared.script.Form.TheVariants.{Line, Zero, Origin}

-- a path to look up: the form of the answers, how letters compare, whether the path is a directory if that is known, and its bytes
pub record Question : Type 0 where
  pub form : Form
  pub case : Case
  pub is_dir : Option Bool
  pub path : List ℕ

pub data Record : Type 0 where
  add : AddedFile → Record
  pop : Record
  names : List (List ℕ) → Record
  ask : Question → Record

abbrev pub space : ℕ
space = 32

-- words with a space between each two, and a line feed
abbrev pub header : List (List ℕ) → List ℕ
header words = join_with_byte space words ++ line_feed ∷ []

-- macros are allowed, or not
abbrev pub macros_word : Bool → List ℕ
macros_word true = codes "m"
macros_word false = codes "-"

-- the length of the root, or `-` for no root
abbrev pub root_word : Option (List ℕ) → List ℕ
root_word None = codes "-"
root_word (Some root) = decimal (length root)

-- the form of the answers
abbrev pub form_word : Form → List ℕ
form_word Line = codes "l"
form_word Zero = codes "z"
form_word Origin = codes "o"

-- letters compare as they are, or without regard to case
abbrev pub case_word : Case → List ℕ
case_word Sensitive = codes "s"
case_word Fold = codes "i"

-- the path is a directory, is a file, or may be either
abbrev pub directory_word : Option Bool → List ℕ
directory_word (Some true) = codes "d"
directory_word (Some false) = codes "f"
directory_word None = codes "u"

abbrev pub ended_line : List ℕ → List ℕ
ended_line line = line ++ line_feed ∷ []

-- The one text of a record: a header, and the parts whose lengths in bytes it has. Numbers are decimal digits, without a zero
-- in front.
abbrev pub spelled : Record → List ℕ
spelled (add a) =
    header
    (codes "add" ∷ macros_word a.allow_macros ∷ decimal (length a.source) ∷ root_word a.root ∷ decimal (length a.buffer) ∷ [])
    ++ ended_line (a.source ++ unwrap_or a.root [] ++ a.buffer)
spelled pop = header (codes "pop" ∷ [])
spelled (names lines) = header (codes "names" ∷ decimal (length lines) ∷ []) ++ flat_map ended_line lines
spelled (ask q) =
    header (codes "ask" ∷ form_word q.form ∷ case_word q.case ∷ directory_word q.is_dir ∷ decimal (length q.path) ∷ [])
    ++ ended_line q.path

-- a number of a header has at most eight digits
abbrev pub IsHeaderNumber : ℕ → Type 0
IsHeaderNumber n = n < 10 ^ 8

abbrev pub IsShortText : List ℕ → Type 0
IsShortText text = IsHeaderNumber (length text) × IsUtf8 text

-- a name is a text without a line feed
abbrev pub IsNameLine : List ℕ → Type 0
IsNameLine name = IsUtf8 name × IsLine name

-- the records that a script can have
abbrev pub CanBeWritten : Record → Type 0
CanBeWritten (add a) = IsShortText a.source × IfSome a.root IsShortText × IsHeaderNumber (length a.buffer)
CanBeWritten pop = ⊤
CanBeWritten (names lines) = IsHeaderNumber (length lines) × All IsNameLine lines
CanBeWritten (ask q) = IsHeaderNumber (length q.path)

-- a script begins with this record, and this is the rest
abbrev pub BeginsWithRecord : List ℕ → Record → List ℕ → Type 0
BeginsWithRecord script r rest = CanBeWritten r × (script ≡ spelled r ++ rest)

-- a script begins with no record
abbrev pub IsMalformed : List ℕ → Type 0
IsMalformed script = (r : Record) (rest : List ℕ) → ¬ (BeginsWithRecord script r rest)

-- the script of these records
abbrev pub script_of : List Record → List ℕ
script_of records = flat_map spelled records

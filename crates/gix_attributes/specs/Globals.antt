-- The global lists of a search: the built-in one and those of global files (gitattributes page; own: their order and sources).
use Rattle.std.specs.Prelude.{◌≡◌, ◌⊎◌, ℕ, true, List, [], ◌++◌, map, fold, Option, Some, None, codes, Vec}
use Rattle.std.specs.List.{FoldsTo}
use Rattle.std.specs.Global.{Global}
use Rattle.std.specs.Option.{option_to_list}
use Rattle.attr_lists.specs.Collections.{Collection}
use Rattle.attr_lists.specs.declared.types.Dropped.{Dropped}
use Rattle.gix_attributes.specs.Additions.{AddsBuffer, AddsContents, RegisteredLists, registered_lists, dropped_of, RefusedBy}
use Rattle.gix_attributes.specs.FileReads.{FileRead, AreAnswered, names_read, contents_of}
use Rattle.gix_attributes.specs.Registers.{no_lists}
use Rattle.gix_attributes.specs.declared.search.attributes.Search.{Search}
use Rattle.gix_attributes.specs.declared.search.files.AddError.{AddError}
use Rattle.gix_attributes.specs.declared.search.files.AddError.TheVariants.{OutOfMemory}

-- what a call that reads global files leaves: the lists with their collection, the lines that are dropped of each name's file,
-- and the contents of the buffer
pub record Globals : Type 0 where
  pub loaded : RegisteredLists
  pub dropped : List (List Dropped)
  pub left : List ℕ

-- the built-in list, which defines the macro `binary`, and its source
unfoldable pub built_in : List ℕ
built_in = codes "[attr]binary -diff -merge -text"

unfoldable pub built_in_source : List ℕ
built_in_source = codes "[builtin]"

-- the built-in list alone is added
abbrev pub AddsBuiltIn : Collection → RegisteredLists → Type 0
AddsBuiltIn known after = AddsBuffer built_in_source None true built_in (no_lists known) after

-- the file of one more name is added: its list has no base, and may define macros
abbrev pub AddsGlobal : RegisteredLists → FileRead → RegisteredLists → Type 0
AddsGlobal before file after = AddsContents file.name None true file.answer before after

-- the built-in list is added first, and then each file that is there, in the order of the reads
pub record AddsGlobals (known : Collection) (read : List FileRead) (loaded : RegisteredLists) : Type 0 where
  pub first : RegisteredLists
  pub built_in : AddsBuiltIn known first
  pub files : FoldsTo AddsGlobal first read loaded

-- the contents of a buffer after these reads
abbrev pub left_by : List ℕ → List FileRead → List ℕ
left_by left read = fold (λ held file. contents_of file.answer) left read

-- a call leaves the globals of these reads
pub record AreGlobalsOf (known : Collection) (bytes : List ℕ) (read : List FileRead) (globals : Globals) : Type 0 where
  pub loaded : AddsGlobals known read globals.loaded
  pub dropped : globals.dropped ≡ map (λ file. dropped_of file.answer) read
  pub left : globals.left ≡ left_by bytes read

-- the globals that a call returns
abbrev pub globals_in : Search → Collection → List (Vec Dropped Global) → List ℕ → Globals
globals_in search known dropped left =
    record { loaded = registered_lists search known; dropped = map (λ lines. lines.items) dropped; left = left }

-- a call finds no memory between two reads, or the addition of the last file that was read is refused
abbrev pub EndsBy : Option FileRead → AddError → Type 0
EndsBy None e = e ≡ OutOfMemory
EndsBy (Some file) e = RefusedBy file.answer e

-- A call that reads global files is refused after some reads of the names that were wanted: the collection has the built-in
-- list, and after it the files of all but the last.
pub record RefusedAfter (wanted : List (List ℕ)) (read : List FileRead) (old new : Collection) (error : AddError) : Type 0 where
  pub added : List FileRead
  pub last : Option FileRead
  pub unread : List (List ℕ)
  pub all : read ≡ added ++ option_to_list last
  pub names : names_read read ++ unread ≡ wanted
  pub answered : AreAnswered added
  pub ended : EndsBy last error
  pub loaded : RegisteredLists
  pub made : AddsGlobals old added loaded
  pub known : loaded.known ≡ new

-- or it is refused before the built-in list is added: nothing is read then, and nothing changes
abbrev pub RefusesGlobals : List (List ℕ) → List FileRead → Collection → Collection → AddError → Type 0
RefusesGlobals wanted read old new error =
    ((read ≡ []) × (new ≡ old) × (error ≡ OutOfMemory)) ⊎ RefusedAfter wanted read old new error

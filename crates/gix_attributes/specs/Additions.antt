-- What adding a buffer or a file does to a search and its collection (own).
use Rattle.std.specs.Prelude.{◌≡◌, ℕ, Bool, ⊤, List, [], ◌∷◌, ◌++◌, Option, Some}
use Rattle.attr_glob.specs.Bases.{base_of}
use Rattle.attr_lists.specs.Definitions.{RegistersAs}
use Rattle.attr_lists.specs.KeptLists.{kept_list_where, dropped_lines}
use Rattle.attr_lists.specs.Collections.{Collection}
use Rattle.attr_lists.specs.ListViews.{Entry}
use Rattle.attr_lists.specs.Numbers.{numbered_lines}
use Rattle.attr_lists.specs.declared.types.Dropped.{Dropped}
use Rattle.gix_attributes.specs.declared.files.ReadError.{ReadError}
use Rattle.gix_attributes.specs.declared.files.ReadError.TheVariants.{Device, OutOfMemory as NoMemory}
use Rattle.gix_attributes.specs.Answers.{ReadAnswer, found, missing, device_failed, memory_refused}
use Rattle.gix_attributes.specs.FileReads.{IsAnswered, file_exists, contents_of}
use Rattle.gix_attributes.specs.SearchViews.{lists_in, list_ids_in}
use Rattle.attr_search.specs.ListView.{Listed}
use Rattle.gix_attributes.specs.declared.search.attributes.Search.{Search}
use Rattle.gix_attributes.specs.declared.search.files.Added.{Added}
use Rattle.gix_attributes.specs.declared.search.files.AddError.{AddError}
use Rattle.gix_attributes.specs.declared.search.files.AddError.TheVariants.{Io, OutOfMemory}

-- the lists of a search, their list ids, and the collection in which they are registered
pub record RegisteredLists : Type 0 where
  pub lists : List Listed
  pub list_ids : List ℕ
  pub known : Collection

abbrev pub registered_lists : Search → Collection → RegisteredLists
registered_lists search known = record { lists = lists_in search; list_ids = list_ids_in search; known = known }

-- a list of these lines is registered under a list id that no list of the collection had, and the search notes this list id after
-- the others
pub record RegistersNext (entries : List Entry) (before after : RegisteredLists) : Type 0 where
  pub list_id : ℕ
  pub registered : RegistersAs list_id entries before.known after.known
  pub noted : after.list_ids ≡ before.list_ids ++ list_id ∷ []

-- the list of a buffer below a base, with the numbers of a collection: the lines that are kept of it
abbrev pub list_below : List ℕ → Option (List ℕ) → Bool → List ℕ → Collection → Listed
list_below source base allow_macros bytes known =
    record { source = Some source; base = base; lines = numbered_lines known.names (kept_list_where allow_macros bytes) }

-- the list of a buffer below the base that its source has as it is seen from the root
abbrev pub buffer_list : List ℕ → Option (List ℕ) → Bool → List ℕ → Collection → Listed
buffer_list source root allow_macros bytes known = list_below source (base_of source root) allow_macros bytes known

-- a buffer is added: its list comes after the others, and is registered
pub record AddsBuffer (source : List ℕ) (root : Option (List ℕ)) (allow_macros : Bool) (bytes : List ℕ)
    (before after : RegisteredLists) : Type 0 where
  pub lists : after.lists ≡ before.lists ++ buffer_list source root allow_macros bytes after.known ∷ []
  pub registered : RegistersNext (kept_list_where allow_macros bytes) before after

-- a file is added as the buffer of its contents, and a missing one adds nothing
abbrev pub AddsContents : List ℕ → Option (List ℕ) → Bool → ReadAnswer → RegisteredLists → RegisteredLists → Type 0
AddsContents source root allow_macros (found bytes) before after = AddsBuffer source root allow_macros bytes before after
AddsContents source root allow_macros missing before after = after ≡ before
AddsContents source root allow_macros device_failed before after = after ≡ before
AddsContents source root allow_macros memory_refused before after = after ≡ before

-- the lines of the file that are dropped
abbrev pub dropped_of : ReadAnswer → List Dropped
dropped_of (found bytes) = dropped_lines bytes
dropped_of missing = []
dropped_of device_failed = []
dropped_of memory_refused = []

-- a file is added: what the call reports of it, the lists and the collection after it, and the contents of the buffer
pub record AddsFile (source : List ℕ) (root : Option (List ℕ)) (allow_macros : Bool) (answer : ReadAnswer)
    (before after : RegisteredLists) (buffer : List ℕ) (added : Added) : Type 0 where
  pub answered : IsAnswered answer
  pub was_added : added.was_added ≡ file_exists answer
  pub dropped : added.dropped.items ≡ dropped_of answer
  pub loaded : AddsContents source root allow_macros answer before after
  pub left : buffer ≡ contents_of answer

-- the error is a failure of the device
abbrev pub IsIo : AddError → Type 0
IsIo (Io e) = ⊤
IsIo OutOfMemory = ⊥

-- the error of an addition has the cause of its read's error
abbrev pub HasCauseOf : ReadError → AddError → Type 0
HasCauseOf (Device e) error = error ≡ Io e
HasCauseOf NoMemory error = error ≡ OutOfMemory

-- An addition is refused because the device failed the read, because the read found no memory, or because the list of the file
-- found none.
abbrev pub RefusedBy : ReadAnswer → AddError → Type 0
RefusedBy (found bytes) e = e ≡ OutOfMemory
RefusedBy missing e = ⊥
RefusedBy device_failed e = IsIo e
RefusedBy memory_refused e = e ≡ OutOfMemory

-- The files of a worktree, and what is looked up in them (own).
use Rattle.std.specs.Prelude.{◌≡◌, ℕ, ◌-◌, true, false, List, [], ◌∷◌, length, map, take, ◌++◌, Option, None, Some, slice_get}
use Rattle.gix_attributes.specs.Additions.{buffer_list}
use Rattle.gix_attributes.specs.Collections.{Collection, empty_collection}
use Rattle.gix_attributes.specs.Definitions.{RegistersAs, without_list}
use Rattle.gix_attributes.specs.KeptLists.{kept_list_where}
use Rattle.gix_attributes.specs.Lookups.{Lookup}
use Rattle.gix_attributes.specs.ListView.{Listed}
use Rattle.gix_attributes.specs.declared.glob.pattern.Case.TheVariants.{Sensitive}
use Rattle.worktree.specs.declared.File.{File}
use Rattle.worktree.specs.declared.Question.{Question}

-- the lists of global files, those of the directories' files with the list ids under which they are registered, and the collection of
-- both
pub record Files : Type 0 where
  pub globals : List Listed
  pub directories : List Listed
  pub directory_ids : List ℕ
  pub known : Collection

abbrev pub no_attributes_files : Files
no_attributes_files = record { globals = []; directories = []; directory_ids = []; known = empty_collection }

-- a global file comes after the others; its patterns match all paths, and it may define macros
pub record AddsGlobalFile (file : File) (before after : Files) : Type 0 where
  pub globals : after.globals ≡ before.globals ++ buffer_list file.path.now None true file.bytes.now after.known ∷ []
  pub directories : after.directories ≡ before.directories
  pub list_id : ℕ
  pub registered : RegistersAs list_id (kept_list_where true file.bytes.now) before.known after.known
  pub directory_ids : after.directory_ids ≡ before.directory_ids

-- the file of a directory comes after those of the directories above; its patterns match the paths in the directory, and it may not
-- define macros
pub record EntersDirectory (file : File) (before after : Files) : Type 0 where
  pub globals : after.globals ≡ before.globals
  pub directories : after.directories
      ≡ before.directories ++ buffer_list file.path.now (Some []) false file.bytes.now after.known ∷ []
  pub list_id : ℕ
  pub registered : RegistersAs list_id (kept_list_where false file.bytes.now) before.known after.known
  pub directory_ids : after.directory_ids ≡ before.directory_ids ++ list_id ∷ []

-- all but the last
abbrev pub all_but_last : {X : Type 0} → List X → List X
all_but_last xs = take (length xs - 1) xs

-- a collection without the list that is registered under this list id, if there is one
abbrev pub without_registration : Option ℕ → Collection → Collection
without_registration None known = known
without_registration (Some list_id) known = without_list list_id known

-- the file of the last directory is removed, if there is one: its list, and its definitions; the names stay
abbrev pub without_last_directory : Files → Files
without_last_directory files =
    record {
      globals = files.globals;
      directories = all_but_last files.directories;
      directory_ids = all_but_last files.directory_ids;
      known = without_registration (slice_get files.directory_ids (length files.directory_ids - 1)) files.known;
    }

-- the file of a directory is added and removed
pub record VisitsDirectory (file : File) (before after : Files) : Type 0 where
  pub entered : Files
  pub enters : EntersDirectory file before entered
  pub left : after ≡ without_last_directory entered

-- the names of the question, for its path, which is no directory: the lists of directories take precedence, so they come last
abbrev pub lookup : Question → Files → Lookup
lookup q files =
    record {
      known = files.known;
      selected = map (λ name. name.now) q.names.now;
      lists = files.globals ++ files.directories;
      path = q.path.bytes.now;
      case = Sensitive;
      is_dir = Some false;
    }

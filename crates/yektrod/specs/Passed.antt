-- What C passes, and what it means (own).
use Rattle.std.specs.Prelude.{◌≡◌, ◌⊎◌, ℕ, ℤ, pos, negsuc, zero, suc, Bool, true, false, List, Option, Some, None, IsUtf8}
use Rattle.std.specs.Prelude.{if◌then◌else◌}
use Rattle.gix_attributes.specs.declared.glob.pattern.Case.{Case}
use Rattle.gix_attributes.specs.declared.glob.pattern.Case.TheVariants.{Sensitive, Fold}
use Rattle.gix_attributes.specs.EngineStates.{AddedFile}

-- the root counts only with its flag
abbrev pub passed_root : Bool → List ℕ → Option (List ℕ)
passed_root has_root root = if has_root then Some root else None

abbrev pub ReadsRoot : Bool → List ℕ → Type 0
ReadsRoot has_root root = has_root ≡ true → IsUtf8 root

-- the file that is added
abbrev pub passed_file : (bytes source root : List ℕ) (has_root allow_macros : Bool) → AddedFile
passed_file bytes source root has_root allow_macros =
    record { allow_macros = allow_macros; source = source; root = passed_root has_root root; buffer = bytes }

abbrev pub passed_case : Bool → Case
passed_case fold = if fold then Fold else Sensitive

-- whether a path is a directory: 1 if it is, 0 if it is not, -1 if that is not known
abbrev pub IsDirectoryNumber : ℤ → Type 0
IsDirectoryNumber is_dir = (is_dir ≡ pos 1) ⊎ (is_dir ≡ pos 0) ⊎ (is_dir ≡ negsuc 0)

abbrev pub directory_flag : ℤ → Option Bool
directory_flag (pos zero) = Some false
directory_flag (pos (suc zero)) = Some true
directory_flag (pos (suc (suc n))) = None
directory_flag (negsuc n) = None

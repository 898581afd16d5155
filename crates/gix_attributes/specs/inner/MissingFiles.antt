-- By which errors a disk says that there is no such file (own).
use Rattle.std.specs.Prelude.{◌≡◌, ◌⊎◌}
use Rattle.std.specs.IoError.{error_kind}
use Rattle.std.specs.declared.io.ErrorKind.{ErrorKind}
use Rattle.std.specs.declared.io.ErrorKind.TheVariants.{NotFound, NotADirectory, IsADirectory}
use Rattle.gix_attributes.specs.declared.files.ReadError.{ReadError}
use Rattle.gix_attributes.specs.declared.files.ReadError.TheVariants.{Device, OutOfMemory}

-- nothing has this path, a part of the path is no directory, or it is a directory
abbrev pub IsOfNoFile : ErrorKind → Type 0
IsOfNoFile kind = (kind ≡ NotFound) ⊎ ((kind ≡ NotADirectory) ⊎ (kind ≡ IsADirectory))

abbrev pub TellsNoFile : ReadError → Type 0
TellsNoFile (Device error) = IsOfNoFile (error_kind error)
TellsNoFile OutOfMemory = ⊥

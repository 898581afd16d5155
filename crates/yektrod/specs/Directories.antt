-- Directories below which lists apply (own).
use Rattle.std.specs.Prelude.{ℕ, ◌==◌, ◌||◌, nat_lt, not, Bool, List, length}
use Rattle.std.specs.List.{list_all, list_any, slice_split}
use Rattle.gix_attributes.specs.Slashes.{is_slash}

abbrev pub is_dot : ℕ → Bool
is_dot byte = byte == 46

-- a part of the path of a directory has a byte that is no dot, or more than two bytes: it is not empty, nor `.` or `..`
abbrev pub is_part : List ℕ → Bool
is_part part = nat_lt 2 (length part) || list_any (λ byte. not (is_dot byte)) part

-- a directory of a repository: nothing, or parts with a slash between each two
abbrev pub names_directory : List ℕ → Bool
names_directory bytes = (length bytes == 0) || list_all is_part (slice_split is_slash bytes)

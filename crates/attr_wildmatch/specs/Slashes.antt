-- Slashes in texts (gitignore page: the slash separates directories).
use Rattle.std.specs.Prelude.{ℕ, ◌-◌, Bool, ◌==◌, List, length, slice_index}
use Rattle.attr_wildmatch.specs.Bytes.{slash}

abbrev pub is_slash : ℕ → Bool
is_slash byte = byte == slash

abbrev pub ends_in_slash : List ℕ → Bool
ends_in_slash text = is_slash (slice_index text (length text - 1))

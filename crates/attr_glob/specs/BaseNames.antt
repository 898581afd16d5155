-- The base name of a path: what a pattern without a slash is matched against. The gitignore page: "The slash `/` is used as the
-- directory separator".
use Rattle.std.specs.Prelude.{ℕ, ◌-◌, List, length, Option, Some, None, if◌then◌else◌}
use Rattle.std.specs.List.{list_any, after_last}
use Rattle.attr_wildmatch.specs.Slashes.{is_slash}

-- what follows the last `/` of a path, and all of a path without one
abbrev pub base_name : List ℕ → List ℕ
base_name path = after_last is_slash path

-- the offset after the last `/` of a path, none without one
abbrev pub base_name_offset : List ℕ → Option ℕ
base_name_offset path = if list_any is_slash path then Some (length path - length (base_name path)) else None

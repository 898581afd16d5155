-- Names of attributes. Git's attr.c, where the page is silent: "Attribute name cannot begin with '-' and must consist of
-- characters from [-A-Za-z0-9_.]". The gitattributes page of later versions: "`builtin_*` is a reserved namespace".
use Rattle.std.specs.Prelude.{ℕ, Bool, not, ◌&&◌, ◌||◌, nat_lt, nat_eq, ◌==◌, List, length, slice_index, codes}
use Rattle.std.specs.Char.{is_ascii_alphanumeric}
use Rattle.std.specs.List.{list_all, starts_with}
use Rattle.attr_wildmatch.specs.Bytes.{hyphen}

-- `.`
abbrev pub dot : ℕ
dot = 46

-- `_`
abbrev pub underscore : ℕ
underscore = 95

-- an ASCII letter, a digit, `-`, `.` or `_`
abbrev pub is_name_byte : ℕ → Bool
is_name_byte b = is_ascii_alphanumeric b || b == hyphen || b == dot || b == underscore

-- not empty, no `-` in front, and all bytes are name bytes
abbrev pub is_valid_name : List ℕ → Bool
is_valid_name name = nat_lt 0 (length name) && not (slice_index name 0 == hyphen) && list_all is_name_byte name

-- a name that is reserved for built-in attributes
abbrev pub is_reserved_name : List ℕ → Bool
is_reserved_name name = starts_with nat_eq name (codes "builtin_")

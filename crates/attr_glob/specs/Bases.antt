-- Where the patterns of a source apply. The gitignore page: "relative to the directory level of the particular `.gitignore` file
-- itself". Roots are own.
use Rattle.std.specs.Prelude.{ℕ, ◌+◌, ◌==◌, ◌&&◌, List, [], ◌∷◌, ◌++◌, length, take, drop, slice_index, nat_eq, Option, Some, None, option_and_then, if◌then◌else◌}
use Rattle.std.specs.List.{starts_with, before_last}
use Rattle.attr_wildmatch.specs.declared.case.Case.{Case}
use Rattle.attr_wildmatch.specs.Bytes.{slash}
use Rattle.attr_glob.specs.Folding.{same_text}
use Rattle.attr_glob.specs.Patterns.{without_end}
use Rattle.attr_wildmatch.specs.Slashes.{is_slash}

-- what precedes the last slash, and nothing if there is none
abbrev pub directory : List ℕ → List ℕ
directory source = before_last is_slash source

-- what follows a prefix and a slash in a directory, if it begins with these
abbrev pub below_front : List ℕ → List ℕ → Option (List ℕ)
below_front front directory =
    if starts_with nat_eq directory front && is_slash (slice_index directory (length front))
    then Some (drop (length front + 1) directory)
    else None

-- a directory as it is seen from a root: whole from the empty root, and from any other what follows the root without
-- the slash at its end
abbrev pub below_root : List ℕ → List ℕ → Option (List ℕ)
below_root root directory = if length root == 0 then Some directory else below_front (without_end root) directory

-- the directory with a slash after it, and none for no directory
abbrev pub with_slash : List ℕ → Option (List ℕ)
with_slash directory = if length directory == 0 then None else Some (directory ++ slash ∷ [])

-- the base of a source: its directory as it is seen from the root, with a slash after it
abbrev pub base_of : List ℕ → Option (List ℕ) → Option (List ℕ)
base_of source root = option_and_then (λ r. option_and_then with_slash (below_root r (directory source))) root

-- what follows a base in a path, if the path begins with it
abbrev pub rest_below : Option (List ℕ) → Case → List ℕ → Option (List ℕ)
rest_below None case path = Some path
rest_below (Some base) case path =
    if same_text case base (take (length base) path) then Some (drop (length base) path) else None

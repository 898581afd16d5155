-- Which paths a pattern matches. The gitignore page: "Otherwise the pattern may also match at any level below"; "then the pattern
-- will only match directories".
use Rattle.std.specs.Prelude.{◌≡◌, ℕ, Bool, true, false, not, ◌&&◌, ◌||◌, IsTrue, List, Option, Some, None, if◌then◌else◌}
use Rattle.attr_wildmatch.specs.declared.case.Case.{Case}
use Rattle.attr_glob.specs.BaseNames.{base_name}
use Rattle.attr_glob.specs.Patterns.{Reading, has_flag, no_sub_dir, must_be_dir, absolute}
use Rattle.attr_wildmatch.specs.Matching.{TextMatches}
use Rattle.attr_wildmatch.specs.Deciding.{text_matches}

-- what is matched: the base name if the pattern has no slash in front or inside, else the whole path
abbrev pub matched_part : Reading → List ℕ → List ℕ
matched_part r path = if has_flag r.mode no_sub_dir && not (has_flag r.mode absolute) then base_name path else path

-- the path is known to be a directory
abbrev pub is_directory : Option Bool → Bool
is_directory (Some known) = known
is_directory None = false

-- the path is known to be a directory if the pattern is for directories, and the tokens of its text match the part
abbrev pub PathMatches : Case → Reading → List ℕ → Option Bool → Type 0
PathMatches case r path is_dir =
    (IsTrue (has_flag r.mode must_be_dir) → is_dir ≡ Some true) × TextMatches case r.text (matched_part r path)

-- the same, computed
abbrev pub path_matches : Case → Reading → List ℕ → Option Bool → Bool
path_matches case r path is_dir =
    (not (has_flag r.mode must_be_dir) || is_directory is_dir) && text_matches case r.text (matched_part r path)

-- Which lines of a list a path has to be matched against (own): a search looks up the lines whose key the base name has.
use Rattle.std.specs.Prelude.{ℕ, Bool, true, false, not, ◌&&◌, List, [], ◌∷◌, length, drop, reverse, nat_eq, is_none, if◌then◌else◌}
use Rattle.std.specs.List.{ends_with as ends_with_list}
use Rattle.attr_wildmatch.specs.declared.case.Case.{Case}
use Rattle.attr_glob.specs.Folding.{folded, same_text}
use Rattle.attr_glob.specs.Patterns.{Reading, has_flag, no_sub_dir, ends_with, absolute, all_flags}

-- all five flags are set, as in the pattern of a line that defines a macro
abbrev pub has_macro_mode : Reading → Bool
has_macro_mode line = has_flag line.mode all_flags

-- the pattern is matched against the base name alone
abbrev pub matches_base_name : Reading → Bool
matches_base_name line = has_flag line.mode no_sub_dir && not (has_flag line.mode absolute)

-- the key of a line: what the base name of a path needs if the line may match
pub data Key : Type 0 where
  -- it is this name
  name : List ℕ → Key
  -- it ends in this
  end : List ℕ → Key
  -- any base name may do
  anything : Key
  -- no base name does
  nothing : Key

-- the key of a line: the first that fits
abbrev pub key_of : Reading → Key
key_of line =
    if has_macro_mode line then nothing
    else if matches_base_name line && is_none line.wildcard then name line.text
    else if matches_base_name line && has_flag line.mode ends_with then end (drop 1 line.text)
    else anything

-- a base name has the key
abbrev pub has_key : Case → List ℕ → Key → Bool
has_key case base (name text) = same_text case text base
has_key case base (end text) = ends_with_list nat_eq (folded case base) (folded case text)
has_key case base anything = true
has_key case base nothing = false

-- the line is a candidate for paths of this base name
abbrev pub is_candidate : Case → List ℕ → Reading → Bool
is_candidate case base line = has_key case base (key_of line)

-- The indexes of the lines that pass the test, the greatest first. The lines are given from the last to the first: a line's
-- index is how many come after it here.
abbrev pub indexes_where : {X : Type 0} → (X → Bool) → List X → List ℕ
indexes_where test [] = []
indexes_where test (line ∷ before) = if test line then length before ∷ indexes_where test before else indexes_where test before

-- the indexes of the candidates for paths of this base name, the greatest first
abbrev pub candidates : Case → List ℕ → List Reading → List ℕ
candidates case base lines = indexes_where (is_candidate case base) (reverse lines)

-- Which lines of a list a search tries (own): some test decides, between the lines that match and the candidates.
use Rattle.std.specs.Prelude.{◌≡◌, ℕ, Bool, true, false, List, reverse, Option, Some}
use Rattle.attr_wildmatch.specs.declared.case.Case.{Case}
use Rattle.attr_glob.specs.BaseNames.{base_name}
use Rattle.attr_glob.specs.Candidates.{has_macro_mode, indexes_where, is_candidate}
use Rattle.attr_glob.specs.Paths.{path_matches}
use Rattle.attr_glob.specs.Patterns.{Reading, reading}

-- each line that matches the path passes the test, of those that were read and define no macro
abbrev pub TakesMatching : Case → List ℕ → (Reading → Bool) → Type 0
TakesMatching case path test =
    (text : List ℕ) (line : Reading) (is_dir : Option Bool) → reading text ≡ Some line → has_macro_mode line ≡ false →
    path_matches case line path is_dir ≡ true → test line ≡ true

-- The indexes, the greatest first, are those of the lines that pass a test, which each line that matches the path passes, and
-- no line but a candidate.
pub record AreTried (case : Case) (path : List ℕ) (lines : List Reading) (indexes : List ℕ) : Type 0 where
  pub test : Reading → Bool
  pub tried : indexes ≡ indexes_where test (reverse lines)
  pub candidate : (line : Reading) → test line ≡ true → is_candidate case (base_name path) line ≡ true
  pub matching : TakesMatching case path test

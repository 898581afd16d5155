-- What an index has of the lines of a list (own).
use Rattle.std.specs.Prelude.{ℕ, List, map}
use Rattle.attr_glob.specs.declared.search.pattern.Mapping.{Mapping}
use Rattle.attr_glob.specs.declared.search.pattern.indexed_line.IndexedLine.{IndexedLine}
use Rattle.attr_glob.specs.Patterns.{Reading}
use Rattle.attr_glob.specs.Views.{pattern_view}

-- a line without what it assigns: its pattern, and its number in its file
pub record NumberedPattern : Type 0 where
  pub pattern : Reading
  pub number : ℕ

-- the lines of an index, and of a list
abbrev pub indexed_line : IndexedLine → NumberedPattern
indexed_line l = record { pattern = pattern_view l.pattern; number = l.number }

abbrev pub indexed_lines : List IndexedLine → List NumberedPattern
indexed_lines lines = map indexed_line lines

abbrev pub listed_lines : {V : Type 0} → List (Mapping V) → List NumberedPattern
listed_lines mappings = map (λ m. record { pattern = pattern_view m.pattern; number = m.sequence_number }) mappings

-- the patterns of an index
abbrev pub indexed_patterns : List IndexedLine → List Reading
indexed_patterns lines = map (λ l. pattern_view l.pattern) lines

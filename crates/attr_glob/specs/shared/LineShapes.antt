-- What the keys of lines are made of (own).
use Rattle.std.specs.Prelude.{ℕ, Bool, true, false, List, map}
use Rattle.attr_keys.specs.shared.KeyContents.{KeyContent}
use Rattle.attr_keys.specs.shared.LineKeys.{ShapeContent, line_content}
use Rattle.attr_keys.specs.shared.Meeting.{content_met}
use Rattle.attr_wildmatch.specs.declared.case.Case.{Case}
use Rattle.attr_wildmatch.specs.declared.case.Case.TheVariants.{Sensitive, Fold}
use Rattle.attr_glob.specs.BaseNames.{base_name}
use Rattle.attr_glob.specs.Candidates.{has_macro_mode, matches_base_name}
use Rattle.attr_glob.specs.Patterns.{Reading, has_flag, ends_with}
use Rattle.attr_glob.specs.Views.{pattern_view}
use Rattle.attr_glob.specs.declared.pattern.Pattern.{Pattern}
use Rattle.attr_glob.specs.declared.search.pattern.indexed_line.IndexedLine.{IndexedLine}

-- letters of different case are the same
abbrev pub folds : Case → Bool
folds Sensitive = false
folds Fold = true

abbrev pub shape_reading : Reading → ShapeContent
shape_reading line =
    record {
      text = line.text;
      wildcard = line.wildcard;
      is_macro = has_macro_mode line;
      asks_name = matches_base_name line;
      is_end = has_flag line.mode ends_with;
    }

-- the key by which a line is found
abbrev pub key_of_line : Reading → KeyContent
key_of_line line = line_content (shape_reading line)

abbrev pub key_of_pattern : Pattern → KeyContent
key_of_pattern pattern = key_of_line (pattern_view pattern)

-- the keys of the lines of an index
abbrev pub indexed_keys : List IndexedLine → List KeyContent
indexed_keys lines = map (λ l. key_of_pattern l.pattern) lines

-- the path has the line's key
abbrev pub is_tried : Case → List ℕ → Reading → Bool
is_tried case path line = content_met (folds case) (base_name path) path (key_of_line line)

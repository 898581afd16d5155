-- The keys of lines (own).
use Rattle.std.specs.Prelude.{ℕ, Bool, false, true, not, ◌==◌, List, [], ◌∷◌, drop, take, reverse, is_none, Option, Some, None, unwrap_or, if◌then◌else◌}
use Rattle.attr_keys.specs.declared.key.Subject.{Subject}
use Rattle.attr_keys.specs.declared.key.Subject.TheVariants.{Name, End, Path, Anything, Nothing}
use Rattle.attr_keys.specs.declared.line_key.Shape.{Shape}
use Rattle.attr_keys.specs.shared.KeyContents.{KeyContent}

-- what a key needs of a line: its text, the offset of the first wildcard, that it defines a macro, that it is matched against
-- base names, and that it is a star and an end
pub record ShapeContent : Type 0 where
  pub text : List ℕ
  pub wildcard : Option ℕ
  pub is_macro : Bool
  pub asks_name : Bool
  pub is_end : Bool

abbrev pub shape_content : Shape → ShapeContent
shape_content shape =
    record {
      text = shape.text.now;
      wildcard = shape.wildcard;
      is_macro = shape.is_macro;
      asks_name = shape.asks_name;
      is_end = shape.is_end;
    }

abbrev pub no_text : Subject → KeyContent
no_text subject = record { subject = subject; text = []; is_whole = false }

abbrev pub whole_text : Subject → List ℕ → KeyContent
whole_text subject text = record { subject = subject; text = text; is_whole = true }

-- what base names end in; each ends in the empty text
abbrev pub suffix_of : List ℕ → KeyContent
suffix_of [] = no_text Anything
suffix_of (b ∷ bs) = record { subject = End; text = reverse (b ∷ bs); is_whole = false }

-- a line that defines a macro, or names a base name or its end
abbrev pub name_content : ShapeContent → Option KeyContent
name_content line =
    if line.is_macro then Some (no_text Nothing)
    else if not line.asks_name then None
    else if is_none line.wildcard then Some (whole_text Name line.text)
    else if line.is_end then Some (suffix_of (drop 1 line.text))
    else None

-- what stands before the first wildcard
abbrev pub prefix_of : Subject → List ℕ → Option ℕ → KeyContent
prefix_of subject text None = whole_text subject text
prefix_of subject text (Some n) =
    if n == 0 then no_text Anything else record { subject = subject; text = take n text; is_whole = false }

abbrev pub prefix_content : ShapeContent → KeyContent
prefix_content line = prefix_of (if line.asks_name then Name else Path) line.text line.wildcard

-- what a path needs
abbrev pub line_content : ShapeContent → KeyContent
line_content line = unwrap_or (name_content line) (prefix_content line)

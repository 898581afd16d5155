-- Which keys the texts of a path have (own).
use Rattle.std.specs.Prelude.{ℕ, Bool, true, false, if◌then◌else◌, List, reverse, Option, Some, None, nat_eq}
use Rattle.std.specs.List.{starts_with}
use Rattle.attr_keys.specs.declared.key.Key.{Key}
use Rattle.attr_keys.specs.declared.key.Subject.{Subject}
use Rattle.attr_keys.specs.declared.key.Subject.TheVariants.{Name, End, Path, Anything, Nothing}
use Rattle.attr_keys.specs.shared.KeyContents.{KeyContent}
use Rattle.attr_keys.specs.shared.Codes.{codes_of, key_codes}

abbrev pub same_subject : Subject → Subject → Bool
same_subject Name Name = true
same_subject End End = true
same_subject Path Path = true
same_subject Anything Anything = true
same_subject Nothing Nothing = true
same_subject _ _ = false

-- there is a key, of this subject
abbrev pub is_about : Subject → Option KeyContent → Bool
is_about subject None = false
is_about subject (Some key) = same_subject subject key.subject

-- the text has the key
abbrev pub text_has : List ℕ → Option KeyContent → Bool
text_has text key = starts_with nat_eq (codes_of false text true) (key_codes key)

-- keys of this subject are compared with base names from the last byte on
abbrev pub is_end : Subject → Bool
is_end End = true
is_end _ = false

-- a text, or the text from its last byte on
abbrev pub directed : Bool → List ℕ → List ℕ
directed from_end text = if from_end then reverse text else text

abbrev pub is_whole_row : Option KeyContent → Bool
is_whole_row None = false
is_whole_row (Some key) = key.is_whole

-- the content of a key
abbrev pub key_content : Key → KeyContent
key_content key = record { subject = key.subject; text = directed (is_end key.subject) key.text.now; is_whole = key.is_whole }

-- the text has a key of this content
abbrev pub has_content : Bool → List ℕ → KeyContent → Bool
has_content fold text key = starts_with nat_eq (codes_of fold text true) (codes_of fold key.text key.is_whole)

abbrev pub content_met_by : Bool → List ℕ → List ℕ → Subject → KeyContent → Bool
content_met_by fold name path Name key = has_content fold name key
content_met_by fold name path End key = has_content fold (reverse name) key
content_met_by fold name path Path key = has_content fold path key
content_met_by fold name path Anything key = true
content_met_by fold name path Nothing key = false

-- the subject has the key
abbrev pub content_met : Bool → List ℕ → List ℕ → KeyContent → Bool
content_met fold name path key = content_met_by fold name path key.subject key

abbrev pub content_met_at : Bool → List ℕ → List ℕ → Option KeyContent → Bool
content_met_at fold name path None = false
content_met_at fold name path (Some key) = content_met fold name path key

-- Texts and keys as they are read: in lower case if case doesn't matter, and from their last bytes on if ends are compared (own).
use Rattle.std.specs.Prelude.{ℕ, Bool, List, [], map, Option, None, Some, if◌then◌else◌}
use Rattle.std.specs.Char.{to_ascii_lowercase}
use Rattle.attr_keys.specs.declared.key.Keys.{Keys}
use Rattle.attr_keys.specs.declared.key.View.{View}
use Rattle.attr_keys.specs.shared.KeyContents.{KeyContent}
use Rattle.attr_keys.specs.shared.Meeting.{directed, is_end}

abbrev pub byte_in_case : Bool → ℕ → ℕ
byte_in_case fold b = if fold then to_ascii_lowercase b else b

abbrev pub in_case : Bool → List ℕ → List ℕ
in_case fold text = if fold then map to_ascii_lowercase text else text

abbrev pub content_in_case : Bool → KeyContent → KeyContent
content_in_case fold key = record { subject = key.subject; text = in_case fold key.text; is_whole = key.is_whole }

-- a text, as it is read
abbrev pub seen_text : View → List ℕ → List ℕ
seen_text view text = in_case view.fold (directed view.from_end text)

-- the text of a key, as it stands in its line
abbrev pub natural : KeyContent → List ℕ
natural key = directed (is_end key.subject) key.text

abbrev pub text_standing : Option KeyContent → List ℕ
text_standing None = []
text_standing (Some key) = natural key

-- a key whose text is read like this
abbrev pub seen : Bool → Bool → KeyContent → KeyContent
seen fold from_end key = record { subject = key.subject; text = in_case fold (directed from_end (natural key)); is_whole = key.is_whole }

abbrev pub seen_keys : Bool → Bool → List KeyContent → List KeyContent
seen_keys fold from_end keys = map (seen fold from_end) keys

-- the keys of lines, as they are read
abbrev pub keys_seen : {K : Type 0} → (K → KeyContent) → Keys K → List KeyContent
keys_seen content keys = seen_keys keys.view.fold keys.view.from_end (map content keys.lines.now)

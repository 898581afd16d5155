-- What is told of an answer whose source is a label (own).
use Rattle.std.specs.Prelude.{ℕ, ℤ, List, Option}
use Rattle.gix_attributes.specs.Slots.{Matched}
use Rattle.yektrod.specs.Rows.{text_numbered}
use Rattle.yektrod.specs.Sourced.{told_match}
use Rattle.yektrod.specs.SourcedContents.{SourcedContent}

-- the text with this number
abbrev pub text_told : SourcedContent → Matched → ℤ → Option (List ℕ)
text_told c m which = text_numbered c.labelled.state.names (told_match c m) which

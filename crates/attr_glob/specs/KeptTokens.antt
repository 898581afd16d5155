-- Which tokens are kept of a pattern (own).
use Rattle.std.specs.Prelude.{Bool, not, ◌&&◌, List, Option, None, is_some, if◌then◌else◌}
use Rattle.attr_glob.specs.Patterns.{Reading, has_flag, ends_with}
use Rattle.attr_wildmatch.specs.Tokens.{Token, tokens}

-- bytes alone may not decide: the text has a wildcard, and isn't one star and an end
abbrev pub needs_tokens : Reading → Bool
needs_tokens r = is_some r.wildcard && not (has_flag r.mode ends_with)

-- the tokens of the text if a match may need them, and none of a malformed text
abbrev pub kept_tokens : Reading → Option (List Token)
kept_tokens r = if needs_tokens r then tokens r.text else None

-- The tokens that an index keeps of its lines (own).
use Rattle.std.specs.Prelude.{List, Option, Box, option_map}
use Rattle.attr_wildmatch.specs.Tokens.{Token}

-- tokens that stand apart
abbrev pub unboxed : {Y : Type 0} → Option (Box (List Token) Y) → Option (List Token)
unboxed kept = option_map (λ tokens. tokens.value) kept

-- Stretches of tokens between stars, each token of which takes one byte (own).
use Rattle.std.specs.Prelude.{ℕ, List, [], ◌∷◌, Option, Some, None, if◌then◌else◌}
use Rattle.attr_wildmatch.specs.declared.case.Case.{Case}
use Rattle.attr_wildmatch.specs.Deciding.{takes_byte}
use Rattle.attr_wildmatch.specs.Tokens.{Token}
use Rattle.attr_wildmatch.specs.inner.RowIndexes.{may_be_nothing}

-- What is left of tokens and of a value once the tokens of one byte at the front are taken off with their bytes. None if one
-- takes no byte.
abbrev pub front_left : Case → List Token → List ℕ → Option (List Token × List ℕ)
front_left case [] value = Some ([], value)
front_left case (t ∷ ts) [] = if may_be_nothing t then Some (t ∷ ts, []) else None
front_left case (t ∷ ts) (b ∷ bs) =
    if may_be_nothing t then Some (t ∷ ts, b ∷ bs) else if takes_byte case t b then front_left case ts bs else None

-- one of two, the first if there is one
abbrev pub or_else : Option (List Token × List ℕ) → Option (List Token × List ℕ) → Option (List Token × List ℕ)
or_else (Some left) other = Some left
or_else None other = other

-- the same, where these tokens first take bytes of the value
abbrev pub first_left : Case → List Token → List ℕ → Option (List Token × List ℕ)
first_left case ts [] = front_left case ts []
first_left case ts (b ∷ bs) = or_else (front_left case ts (b ∷ bs)) (first_left case ts bs)

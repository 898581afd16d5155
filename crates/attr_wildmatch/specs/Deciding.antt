-- A test whether tokens match a value, by recursion on both (the rule of `Matching`, computed).
use Rattle.std.specs.Prelude.{ℕ, Bool, true, false, not, ◌&&◌, ◌||◌, ◌==◌, List, [], ◌∷◌, Option, Some, None, if◌then◌else◌}
use Rattle.attr_wildmatch.specs.declared.case.Case.{Case}
use Rattle.attr_wildmatch.specs.Bytes.{slash}
use Rattle.attr_wildmatch.specs.Brackets.{set_holds}
use Rattle.attr_wildmatch.specs.Tokens.{Token, lit, one, set, star, dirs, rest, tokens}
use Rattle.attr_wildmatch.specs.Matching.{same_byte}

-- a token that takes one byte takes this one
abbrev pub takes_byte : Case → Token → ℕ → Bool
takes_byte case (lit c) b = same_byte case c b
takes_byte case one b = not (b == slash)
takes_byte case (set negated ms) b = not (b == slash) && (if negated then not (set_holds case ms b) else set_holds case ms b)
takes_byte case star b = false
takes_byte case dirs b = false
takes_byte case rest b = false

-- a byte that passes the test, and then what `f` takes
abbrev pub byte_then : (ℕ → Bool) → (List ℕ → Bool) → List ℕ → Bool
byte_then p f [] = false
byte_then p f (b ∷ bs) = p b && f bs

-- bytes other than a slash, and then what `f` takes
abbrev pub star_then : (List ℕ → Bool) → List ℕ → Bool
star_then f [] = f []
star_then f (b ∷ bs) = f (b ∷ bs) || (not (b == slash) && star_then f bs)

-- any text that ends in a slash, and then what `f` takes
abbrev pub slash_then : (List ℕ → Bool) → List ℕ → Bool
slash_then f [] = false
slash_then f (b ∷ bs) = (b == slash && f bs) || slash_then f bs

-- any text, and then what `f` takes
abbrev pub rest_then : (List ℕ → Bool) → List ℕ → Bool
rest_then f [] = f []
rest_then f (b ∷ bs) = f (b ∷ bs) || rest_then f bs

-- what the token takes, and then what `f` takes
abbrev pub token_then : Case → Token → (List ℕ → Bool) → List ℕ → Bool
token_then case (lit c) f v = byte_then (takes_byte case (lit c)) f v
token_then case one f v = byte_then (takes_byte case one) f v
token_then case (set negated ms) f v = byte_then (takes_byte case (set negated ms)) f v
token_then case star f v = star_then f v
token_then case dirs f v = f v || slash_then f v
token_then case rest f v = rest_then f v

-- there is nothing left
abbrev pub is_nil : List ℕ → Bool
is_nil [] = true
is_nil (b ∷ bs) = false

-- the tokens match the value
abbrev pub matches : Case → List Token → List ℕ → Bool
matches case [] value = is_nil value
matches case (t ∷ ts) value = token_then case t (matches case ts) value

-- the tokens match the value, if there are any
abbrev pub some_match : Case → Option (List Token) → List ℕ → Bool
some_match case None value = false
some_match case (Some ts) value = matches case ts value

-- the tokens of the text match the value, if the text has any
abbrev pub text_matches : Case → List ℕ → List ℕ → Bool
text_matches case text value = some_match case (tokens text) value

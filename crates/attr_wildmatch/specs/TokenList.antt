-- What the tokens of the code mean (gitignore page).
use Rattle.std.specs.Prelude.{List, [], ◌∷◌}
use Rattle.attr_wildmatch.specs.declared.token.Token as written
use Rattle.attr_wildmatch.specs.declared.token.Token.TheVariants.{Lit, One, Set, Star, Dirs, Rest}
use Rattle.attr_wildmatch.specs.Tokens.{Token, lit, one, set, star, dirs, rest}

-- the meaning of a token
abbrev pub token_of : written.Token → Token
token_of (Lit c) = lit c
token_of One = one
token_of (Set negated members) = set negated members.value
token_of Star = star
token_of Dirs = dirs
token_of Rest = rest

-- the meanings of tokens
abbrev pub tokens_of : List written.Token → List Token
tokens_of [] = []
tokens_of (t ∷ ts) = token_of t ∷ tokens_of ts

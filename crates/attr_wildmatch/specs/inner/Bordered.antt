-- A directory star is only where git has one (gitignore page).
use Rattle.std.specs.Prelude.{Bool, true, ◌&&◌, List, [], ◌∷◌}
use Rattle.attr_wildmatch.specs.Tokens.{Token, dirs, token_ends_in_slash}

-- each directory star is at the start or after a token that ends in a slash
abbrev pub is_bordered : Bool → List Token → Bool
is_bordered border [] = true
is_bordered border (dirs ∷ ts) = border && is_bordered true ts
is_bordered border (t ∷ ts) = is_bordered (token_ends_in_slash t) ts

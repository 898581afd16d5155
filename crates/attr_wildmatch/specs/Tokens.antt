-- The tokens of a pattern's text, computed (gitignore page).
use Rattle.std.specs.Prelude.{ℕ, zero, suc, Bool, true, false, ◌&&◌, ◌==◌, List, [], ◌∷◌, length, Option, Some, None, option_map, option_and_then, if◌then◌else◌}
use Rattle.attr_wildmatch.specs.declared.bracket.Member.{Member}
use Rattle.attr_wildmatch.specs.Bytes.{asterisk, slash, question_mark, open_bracket, backslash}
use Rattle.attr_wildmatch.specs.Brackets.{negates, begins, members}

-- what a token of a pattern takes
pub data Token : Type 0 where
  -- that byte
  lit : ℕ → Token
  -- one byte, but no slash
  one : Token
  -- one byte of the members or, if negated, one that isn't of them, but no slash
  set : Bool → List Member → Token
  -- any text without a slash
  star : Token
  -- nothing, or any text that ends in a slash
  dirs : Token
  -- any text
  rest : Token

-- what follows a run of stars
abbrev pub after_stars : List ℕ → List ℕ
after_stars [] = []
after_stars (b ∷ bs) = if b == asterisk then after_stars bs else b ∷ bs

-- the token of a run of two or more stars, at the text's start or after a slash, which these bytes follow
abbrev pub directory_at : List ℕ → Token × List ℕ
directory_at [] = (rest, [])
directory_at (b ∷ bs) = if b == slash then (dirs, bs) else (star, b ∷ bs)

-- the token of a run of stars whose first one these bytes follow
abbrev pub stars_at : Bool → List ℕ → Token × List ℕ
stars_at border bs = if border && begins asterisk bs then directory_at (after_stars bs) else (star, after_stars bs)

-- the token of a bracket, given the bytes after its `[`
abbrev pub bracket_at : List ℕ → Option (Token × List ℕ)
bracket_at [] = None
bracket_at (b ∷ bs) =
    if negates b then option_map (λ p. (set true p.0, p.1)) (members (length bs) true bs)
    else option_map (λ p. (set false p.0, p.1)) (members (length (b ∷ bs)) true (b ∷ bs))

-- the token of a backslash, which these bytes follow
abbrev pub escape_at : List ℕ → Option (Token × List ℕ)
escape_at [] = None
escape_at (c ∷ bs) = Some (lit c, bs)

-- The token that begins with the byte b, which these bytes follow, and what follows the token, if the text is well
-- formed. `border`: b is at the text's start or after a slash.
abbrev pub token_at : Bool → ℕ → List ℕ → Option (Token × List ℕ)
token_at border b bs =
    if b == question_mark then Some (one, bs)
    else (if b == backslash then escape_at bs
    else (if b == open_bracket then bracket_at bs
    else (if b == asterisk then Some (stars_at border bs)
    else Some (lit b, bs))))

-- the token's last byte is a slash
abbrev pub token_ends_in_slash : Token → Bool
token_ends_in_slash (lit c) = c == slash
token_ends_in_slash dirs = true
token_ends_in_slash _ = false

-- the tokens of a text of at most n bytes
abbrev pub tokens_from : ℕ → Bool → List ℕ → Option (List Token)
tokens_from n border [] = Some []
tokens_from zero border (b ∷ bs) = None
tokens_from (suc n) border (b ∷ bs) =
    option_and_then (λ p. option_map (λ ts. p.0 ∷ ts) (tokens_from n (token_ends_in_slash p.0) p.1)) (token_at border b bs)

-- the tokens of a text, none if it is malformed
abbrev pub tokens : List ℕ → Option (List Token)
tokens text = tokens_from (length text) true text

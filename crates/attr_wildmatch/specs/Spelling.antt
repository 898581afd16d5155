-- Which texts spell which tokens, as a relation. The gitignore page: "The range notation, e.g. `[a-zA-Z]` .. See fnmatch(3) and
-- the FNM_PATHNAME flag"; "Other consecutive asterisks are considered regular asterisks". Malformed texts are own.
use Rattle.std.specs.Prelude.{◌≡◌, ◌≢◌, ◌≤◌, ℕ, suc, Bool, true, false, ◌⊎◌, List, [], ◌∷◌, ◌++◌, replicate, All, codes}
use Rattle.attr_wildmatch.specs.declared.bracket.Class.{Class}
use Rattle.attr_wildmatch.specs.declared.bracket.Class.TheVariants.{Alnum, Alpha, Blank, Cntrl, Digit, Graph, Lower, Print, Punct, Space, Upper, Xdigit}
use Rattle.attr_wildmatch.specs.declared.bracket.Member.{Member}
use Rattle.attr_wildmatch.specs.declared.bracket.Member.TheVariants.{Single, Span, Named}
use Rattle.attr_wildmatch.specs.Bytes.{exclamation_mark, asterisk, hyphen, slash, colon, question_mark, open_bracket, backslash, close_bracket, caret}
use Rattle.attr_wildmatch.specs.Tokens.{Token, lit, one, set, star, dirs, rest, token_ends_in_slash}

-- the name of a class
abbrev pub class_name : Class → List ℕ
class_name Alnum = codes "alnum"
class_name Alpha = codes "alpha"
class_name Blank = codes "blank"
class_name Cntrl = codes "cntrl"
class_name Digit = codes "digit"
class_name Graph = codes "graph"
class_name Lower = codes "lower"
class_name Print = codes "print"
class_name Punct = codes "punct"
class_name Space = codes "space"
class_name Upper = codes "upper"
class_name Xdigit = codes "xdigit"

-- the text begins with `[:`, a name without `]`, and `:]`
abbrev pub BeginsClass : List ℕ → Type 0
BeginsClass text =
    (name : List ℕ) × (others : List ℕ) ×
    (text ≡ open_bracket ∷ colon ∷ (name ++ colon ∷ close_bracket ∷ others)) × All (λ b. b ≢ close_bracket) name

-- the text begins with the single byte c, and `others` follows; c may be `]` if it comes first
abbrev pub IsSingle : Bool → List ℕ → ℕ → List ℕ → Type 0
IsSingle first text c others =
    (text ≡ backslash ∷ c ∷ others) ⊎
    ((text ≡ c ∷ others) × (c ≢ backslash) × (c ≡ close_bracket → first ≡ true) × (BeginsClass text → ⊥))

-- the text begins with the end d of a range
abbrev pub IsEnd : List ℕ → ℕ → List ℕ → Type 0
IsEnd text d others =
    (text ≡ backslash ∷ d ∷ others) ⊎ ((text ≡ d ∷ others) × (d ≢ backslash) × (d ≢ close_bracket))

-- the text begins with the member
abbrev pub IsMember : Bool → List ℕ → Member → List ℕ → Type 0
IsMember first text (Single c) others =
    IsSingle first text c others ×
    ((ends : List ℕ) (d : ℕ) (more : List ℕ) → others ≡ hyphen ∷ ends → IsEnd ends d more → ⊥)
IsMember first text (Span c d) others =
    (ends : List ℕ) × IsSingle first text c (hyphen ∷ ends) × IsEnd ends d others
IsMember first text (Named class) others =
    text ≡ open_bracket ∷ colon ∷ (class_name class ++ colon ∷ close_bracket ∷ others)

-- the text begins with the members and the closing `]`
abbrev pub AreMembers : Bool → List ℕ → List Member → List ℕ → Type 0
AreMembers first text [] others = (first ≡ false) × (text ≡ close_bracket ∷ others)
AreMembers first text (m ∷ ms) others =
    (mid : List ℕ) × IsMember first text m mid × AreMembers false mid ms others

-- a longest run of n stars, and then `others`
abbrev pub IsRun : List ℕ → ℕ → List ℕ → Type 0
IsRun text n others =
    (text ≡ replicate n asterisk ++ others) × ((more : List ℕ) → others ≡ asterisk ∷ more → ⊥)

-- the text begins with the token; `border`: it is at the start or after a slash
abbrev pub IsToken : Bool → List ℕ → Token → List ℕ → Type 0
IsToken border text (lit c) others =
    (text ≡ backslash ∷ c ∷ others) ⊎
    ((text ≡ c ∷ others) × (c ≢ asterisk) × (c ≢ question_mark) × (c ≢ open_bracket) × (c ≢ backslash))
IsToken border text one others = text ≡ question_mark ∷ others
IsToken border text (set true ms) others =
    (b : ℕ) × (inside : List ℕ) × (text ≡ open_bracket ∷ b ∷ inside) ×
    ((b ≡ exclamation_mark) ⊎ (b ≡ caret)) × AreMembers true inside ms others
IsToken border text (set false ms) others =
    (b : ℕ) × (inside : List ℕ) × (text ≡ open_bracket ∷ b ∷ inside) ×
    (b ≢ exclamation_mark) × (b ≢ caret) × AreMembers true (b ∷ inside) ms others
IsToken border text star others =
    (n : ℕ) × IsRun text (suc n) others ×
    (border ≡ true → 1 ≤ n → (b : ℕ) × (more : List ℕ) × (others ≡ b ∷ more) × (b ≢ slash))
IsToken border text dirs others =
    (n : ℕ) × (border ≡ true) × (text ≡ replicate (suc (suc n)) asterisk ++ slash ∷ others)
IsToken border text rest others =
    (n : ℕ) × (border ≡ true) × (text ≡ replicate (suc (suc n)) asterisk) × (others ≡ [])

-- the text spells the tokens
abbrev pub AreTokens : Bool → List ℕ → List Token → Type 0
AreTokens border text [] = text ≡ []
AreTokens border text (t ∷ ts) =
    (others : List ℕ) × IsToken border text t others × AreTokens (token_ends_in_slash t) others ts

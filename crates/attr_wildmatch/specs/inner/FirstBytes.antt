-- Where tokens that begin with a byte or two may match (own).
use Rattle.std.specs.Prelude.{◌≡◌, ℕ, Bool, ◌&&◌, List, [], ◌∷◌, drop, if◌then◌else◌}
use Rattle.attr_wildmatch.specs.declared.case.Case.{Case}
use Rattle.attr_wildmatch.specs.declared.case.Case.TheVariants.{Sensitive}
use Rattle.attr_wildmatch.specs.Brackets.{begins}
use Rattle.attr_wildmatch.specs.Tokens.{Token, lit}

-- the tokens begin with this byte, whose case matters
pub record BeginWith (case : Case) (byte : ℕ) (ts : List Token) : Type 0 where
  pub sensitive : case ≡ Sensitive
  pub others : List Token
  pub tokens : ts ≡ lit byte ∷ others

-- the tokens begin with these two bytes, whose case matters
pub record BeginWithPair (case : Case) (first second : ℕ) (ts : List Token) : Type 0 where
  pub sensitive : case ≡ Sensitive
  pub others : List Token
  pub tokens : ts ≡ lit first ∷ lit second ∷ others

-- the value begins with these two bytes
abbrev pub begins_with_pair : ℕ → ℕ → List ℕ → Bool
begins_with_pair first second v = begins first v && begins second (drop 1 v)

-- the value from the first offset on from which it passes the test, and nothing if there is none
abbrev pub from_first : (List ℕ → Bool) → List ℕ → List ℕ
from_first test [] = []
from_first test (b ∷ bs) = if test (b ∷ bs) then b ∷ bs else from_first test bs

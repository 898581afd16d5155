-- What is left of tokens and of a value once tokens of one byte each are taken off with their bytes (own).
use Rattle.std.specs.Prelude.{◌≡◌, ◌≤◌, ℕ, true, false, List, length, Option, None, Some}
use Rattle.attr_wildmatch.specs.declared.case.Case.{Case}
use Rattle.attr_wildmatch.specs.Deciding.{matches}
use Rattle.attr_wildmatch.specs.inner.Bordered.{is_bordered}
use Rattle.attr_wildmatch.specs.Tokens.{Token}

-- what is left matches if and only if all did
pub record IsLeft (case : Case) (ts : List Token) (value : List ℕ) (left : List Token) (rest : List ℕ) : Type 0 where
  pub matched : matches case ts value ≡ matches case left rest
  pub bordered : is_bordered true ts ≡ true → is_bordered true left ≡ true
  pub fewer : length left ≤ length ts

-- such tokens are taken off, and this is left; none if one takes no byte, so that the tokens do not match
abbrev pub AreTakenOff : Case → List Token → List ℕ → Option (List Token × List ℕ) → Type 0
AreTakenOff case ts value None = matches case ts value ≡ false
AreTakenOff case ts value (Some left) = IsLeft case ts value left.0 left.1

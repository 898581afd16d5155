-- What deciding whether tokens match by a row asks for, and what it gives (own).
use Rattle.std.specs.Prelude.{◌≡◌, ◌≤◌, ◌<◌, ◌^◌, ℕ, Bool, true, List, length}
use Rattle.attr_wildmatch.specs.declared.case.Case.{Case}
use Rattle.attr_wildmatch.specs.declared.token.Token as written
use Rattle.attr_wildmatch.specs.TokenList.{tokens_of}
use Rattle.attr_wildmatch.specs.Tokens.{Token}
use Rattle.attr_wildmatch.specs.Deciding.{matches}
use Rattle.attr_wildmatch.specs.inner.Bordered.{is_bordered}

-- a row can be moved for these tokens: it has room for an index of each, and one more
pub record IsReady (tokens : List written.Token) (capacity : ℕ) : Type 0 where
  pub few : length tokens < 2 ^ 63
  pub bordered : is_bordered true (tokens_of tokens) ≡ true
  pub room : length tokens < capacity

-- the answer is whether the tokens match the value, and the rows keep their room
pub record IsDecided (case : Case) (ts : List Token) (value : List ℕ) (answer : Bool) (before after : ℕ) : Type 0 where
  pub matched : answer ≡ matches case ts value
  pub room : before ≤ after

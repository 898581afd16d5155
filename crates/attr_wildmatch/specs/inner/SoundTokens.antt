-- What holds of tokens that are kept (own).
use Rattle.std.specs.Prelude.{◌≡◌, ℕ, true, List}
use Rattle.attr_wildmatch.specs.declared.pairs.Pairs.{Pairs}
use Rattle.attr_wildmatch.specs.Tokens.{Token}
use Rattle.attr_wildmatch.specs.inner.Bordered.{is_bordered}
use Rattle.attr_wildmatch.specs.Pairs.{holds, needs_pair}

pub record AreSoundTokens (ts : List Token) (kinds : Pairs) : Type 0 where
  pub bordered : is_bordered true ts ≡ true
  pub pairs : (k : ℕ) → holds kinds k ≡ needs_pair k ts

-- Numbers, each with a key (own).
use Rattle.std.specs.Prelude.{ℕ, List}

-- the keys of 0, 1, 2 and so on, and how many more fit
pub record KeyedNumbers : Type 0 where
  pub keys : List ℕ
  pub room : ℕ

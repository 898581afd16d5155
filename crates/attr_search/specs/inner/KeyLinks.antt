-- Which numbers have a key (own). Nothing here has to be believed.
use Rattle.std.specs.Prelude.{◌≡◌, ℕ, zero, suc, List, Contains, Option, Some, None, cond, nat_eq, slice_get, slice_index}

-- the greatest number below a bound that has the key, if there is one
abbrev pub latest_below : List ℕ → ℕ → ℕ → Option ℕ
latest_below keys key zero = None
latest_below keys key (suc n) = cond (nat_eq (slice_index keys n) key) (Some n) (latest_below keys key n)

-- the numbers that have a key are there, and those that were there before
pub record AppendsKeyed (keys : List ℕ) (key : ℕ) (before after : List ℕ) : Type 0 where
  pub kept : (number : ℕ) → Contains before number → Contains after number
  pub found : (number : ℕ) → slice_get keys number ≡ Some key → Contains after number

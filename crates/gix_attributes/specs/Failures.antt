-- Counts of failures (own).
use Rattle.std.specs.Prelude.{ℕ, ◌+◌, ◌-◌, ◌^◌, ◌<◌, min}

-- `u64::MAX`, at which a count stops
abbrev pub largest_count : ℕ
largest_count = 2 ^ 64 - 1

-- the count has risen, unless it was the largest, which stays
abbrev pub Fails : ℕ → ℕ → Type 0
Fails old new = old < largest_count → old < new

-- the count after one more failure
abbrev pub one_more : ℕ → ℕ
one_more count = min (count + 1) largest_count

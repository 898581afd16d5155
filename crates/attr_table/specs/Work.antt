-- Upper and lower bounds of the items that a search pops (own).
use Rattle.std.specs.Prelude.{ℕ, zero, suc, ◌+◌, Option, Some, None, length, sum_by}
use Rattle.attr_table.specs.Setting.{Setting}
use Rattle.attr_table.specs.Table.{Slots}

-- the most items that a search may pop: those of the matching lines, and those of all bodies
abbrev pub work_of : Setting → ℕ
work_of s =
    sum_by (λ lines. sum_by (λ line. length line.items) lines) s.lists + sum_by (λ body. length body) s.bodies

-- one if a slot was empty and is filled
abbrev pub newly_at : {X : Type 0} → Option X → Option X → ℕ
newly_at None (Some x) = 1
newly_at None None = 0
newly_at (Some y) slot = 0

-- the count of those of the first n attributes that have an answer now and had none before
abbrev pub newly_filled : Slots → Slots → ℕ → ℕ
newly_filled before after zero = 0
newly_filled before after (suc n) = newly_filled before after n + newly_at (before n) (after n)

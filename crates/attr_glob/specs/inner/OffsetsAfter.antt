-- Offsets after a front that is taken off (own).
use Rattle.std.specs.Prelude.{ℕ, ◌-◌, nat_lt, Option, Some, None, if◌then◌else◌}

-- an offset, counted after so many bytes, and none if it is not after them
abbrev pub offset_after : ℕ → Option ℕ → Option ℕ
offset_after taken None = None
offset_after taken (Some offset) = if nat_lt taken offset then Some (offset - taken) else None

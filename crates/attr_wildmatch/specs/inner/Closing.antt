-- Where a bracket may be closed (own).
use Rattle.std.specs.Prelude.{ℕ, zero, suc, ◌==◌, List, [], ◌∷◌, length, if◌then◌else◌}
use Rattle.attr_wildmatch.specs.Bytes.{close_bracket}

-- how many bytes there are from the first `]` on, 0 without one
abbrev pub from_close : List ℕ → ℕ
from_close [] = zero
from_close (b ∷ bs) = if b == close_bracket then suc (length bs) else from_close bs

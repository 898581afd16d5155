use Rattle.std.proofs.Common.{◌≡◌, map, slice_index, take}
use Rattle.attr_keys.specs.inner.Cases.{keys_seen}
use Rattle.attr_keys.specs.shared.Codes.{row_codes}
use Rattle.attr_keys.proofs.prefixes.push_firsts.Given as goal

abbrev pub invariant-loop-row : goal.invariant-loop-row
invariant-loop-row g l =
    l.firsts.items ≡ map (λ row. slice_index (row_codes (keys_seen g.K.Keyed.content l.keys) row) 0) (take l.row-index l.rows)

use Rattle.std.proofs.Common.{◌≡◌, ℕ, ◌<◌, ◌≤◌, Bool, false, map}
use Rattle.std.specs.Prelude.{slice_get}
use Rattle.attr_keys.specs.shared.Meeting.{content_met_at}
use Rattle.attr_keys.specs.shared.Rows.{has_row}
use Rattle.attr_keys.proofs.key_index.append_each.Given as goal

-- the rows from one on were tried, and none before
abbrev pub invariant-loop-row : goal.invariant-loop-row
invariant-loop-row g l =
    let met : ℕ → Bool = λ row. content_met_at l.texts.fold l.texts.name.now l.texts.path.now (slice_get (map g.K.Keyed.content l.lines) row) in
    ((row : ℕ) → l.row ≤ row → has_row l.found.items row ≡ met row) × ((row : ℕ) → row < l.row → has_row l.found.items row ≡ false)

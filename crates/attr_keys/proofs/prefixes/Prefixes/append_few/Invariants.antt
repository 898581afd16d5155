use Rattle.std.proofs.Common.{◌≡◌, ◌&&◌, ◌||◌, ℕ, take}
use Rattle.std.specs.Prelude.{slice_get}
use Rattle.attr_keys.specs.inner.Cases.{keys_seen, seen_text}
use Rattle.attr_keys.specs.shared.Meeting.{text_has}
use Rattle.attr_keys.specs.shared.Rows.{has_row}
use Rattle.attr_keys.proofs.prefixes.Prefixes.append_few.Given as goal

abbrev pub invariant-loop-index : goal.invariant-loop-index
invariant-loop-index g l = (row : ℕ) → has_row l.found.items row
    ≡ has_row l.initial.found.items row || (has_row (take l.index l.self.rows.items) row
    && text_has (seen_text l.keys.view l.text) (slice_get (keys_seen g.K.Keyed.content l.keys) row))

-- How many lines a search must test (own): no fewer than those that have the roots of what it finds.
use Rattle.std.specs.Prelude.{◌≡◌, ℕ, ◌-◌, ◌^◌, ◌≤◌, min, List, length, true, Some, None, Contains, is_some}
use Rattle.attr_table.specs.Table.{Occurrence, Root, Inside, Table, Slots}

-- the list and the line of an occurrence's root
abbrev pub root_line : Occurrence → ℕ × ℕ
root_line (Root list line item) = (list, line)
root_line (Inside parent index) = root_line parent

-- The roots of the entries whose slots were filled are in so many different lines at most; the count stops at the
-- greatest u128.
abbrev pub RootsAtMost : Table → Slots → Slots → ℕ → Type 0
RootsAtMost table before after most =
    (lines : List (ℕ × ℕ)) × (min (length lines) (2 ^ 128 - 1) ≤ most)
    × ((a : ℕ) (o : Occurrence) → table a ≡ Some o → before a ≡ None → is_some (after a) ≡ true →
    Contains lines (root_line o))

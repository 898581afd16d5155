-- The flags of wanted numbers, and what is kept of the set ones (own).
use Rattle.std.specs.Prelude.{◌≡◌, ℕ, Bool, List, map, ◌||◌}
use Rattle.std.specs.BTreeSet.{contains}
use Rattle.std.specs.List.{range_with_len}
use Rattle.std.specs.Ordering.{nat_cmp}
use Rattle.attr_search.specs.shared.SlotContents.{count_wanted}
use Rattle.attr_search.specs.declared.wanted.WantedFlags.TheInside.{Inside}

-- the flag of a number: all are set, or the number is in the set
abbrev pub is_flag_set : Inside → ℕ → Bool
is_flag_set w number = w.all || contains nat_cmp w.numbers number

abbrev pub wanted_flags_view : Inside → List Bool
wanted_flags_view w = map (is_flag_set w) (range_with_len 0 w.len)

-- the set ones are counted
pub record AreSoundFlags (w : Inside) : Type 0 where
  pub counted : w.count ≡ count_wanted (wanted_flags_view w)

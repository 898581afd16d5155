-- Slots that are empty, open, wanted or listed (own).
use Rattle.std.specs.Prelude.{◌≡◌, ℕ, suc, ◌+◌, nat_eq, Bool, true, false, cond, List, [], ◌∷◌, map, sum_by, slice_index_or, All, Option, None, is_none, is_some, ◌&&◌}
use Rattle.std.specs.List.{IsDistinct, list_any}
use Rattle.attr_lists.specs.declared.types.TrackedAssignment.{TrackedAssignment}
use Rattle.attr_table.specs.Skipped.{narrowed}
use Rattle.attr_table.specs.Table.{Slots}
use Rattle.attr_search.specs.SearchContents.{SearchContents}
use Rattle.attr_search.specs.Slots.{is_needed, slots_of}

-- empty slots, of which some are wanted, with bodies
abbrev pub empty_slots : List Bool → List Bool → List (List TrackedAssignment) → SearchContents
empty_slots wanted needed bodies = record {
  answers = map (λ flag. None) wanted;
  wanted = wanted;
  needed = needed;
  line = None;
  bodies = bodies;
  kept = 0;
  taken = 0;
  tested = 0;
}

-- the table's slots: those that are not needed count as filled
abbrev pub open_slots : SearchContents → Slots
open_slots state = narrowed (is_needed state.needed) (slots_of state.answers)

-- each number whose flag is set here has its flag set there
abbrev pub AreFlagsAmong : List Bool → List Bool → Type 0
AreFlagsAmong some others = (number : ℕ) → slice_index_or some number false ≡ true → slice_index_or others number false ≡ true

-- the numbers that are wanted
abbrev pub wanted_numbers : List Bool → List ℕ
wanted_numbers [] = []
wanted_numbers (wanted ∷ rest) = cond wanted (0 ∷ map suc (wanted_numbers rest)) (map suc (wanted_numbers rest))

-- how many numbers are wanted
abbrev pub count_wanted : List Bool → ℕ
count_wanted flags = sum_by (λ wanted. cond wanted 1 0) flags

-- one if a slot is wanted and free
abbrev pub remaining_at : {X : Type 0} → Bool → Option X → ℕ
remaining_at wanted slot = cond (wanted && is_none slot) 1 0

-- how many wanted slots are free
abbrev pub count_remaining : {X : Type 0} → List Bool → List (Option X) → ℕ
count_remaining [] slots = 0
count_remaining (wanted ∷ flags) [] = 0
count_remaining (wanted ∷ flags) (slot ∷ slots) = remaining_at wanted slot + count_remaining flags slots

-- the numbers are those of the slots that are filled, each once
pub record AreListed {X : Type 0} (slots : List (Option X)) (numbers : List ℕ) : Type 0 where
  pub filled : All (λ number. is_some (slice_index_or slots number None) ≡ true) numbers
  pub distinct : IsDistinct nat_eq numbers
  pub others : (a : ℕ) → list_any (nat_eq a) numbers ≡ false → slice_index_or slots a None ≡ None

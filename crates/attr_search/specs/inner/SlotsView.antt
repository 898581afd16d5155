-- The answers in slots and the bodies, that the indexes they refer to are in use, that the numbers of filled slots are listed, and that
-- bodies fit (own).
use Rattle.std.specs.Prelude.{◌≡◌, ℕ, ◌≤◌, ◌+◌, ◌&&◌, Bool, true, false, List, length, All, Option, None, is_none, ◌-◌, slice_index_or}
use Rattle.std.specs.List.Sorted.{IsStrictlyIncreasing}
use Rattle.attr_search.specs.SearchContents.{SearchContents}
use Rattle.attr_search.specs.shared.SlotContents.{AreFlagsAmong, AreListed, count_remaining}
use Rattle.attr_lists.specs.declared.types.TrackedAssignment.{TrackedAssignment}
use Rattle.attr_search.specs.shared.Slotted.{BodiesHaveSlots, bodies_view}
use Rattle.attr_search.specs.inner.AnswerRefs.{AreMatchRefs, matches_by_ref}
use Rattle.attr_search.specs.inner.PartsContents.{PartsContent}
use Rattle.attr_search.specs.inner.PartsView.{last_origin, parts_view}
use Rattle.attr_search.specs.declared.slots.AnswerSlots.TheInside.{Inside}

-- what the answers in slots refer to
abbrev pub kept_parts : Inside → PartsContent
kept_parts b = parts_view b.lines.items b.items.items b.bodies.items

abbrev pub slots_view : Inside → SearchContents
slots_view b =
    record {
      answers = matches_by_ref (kept_parts b) b.slots.items;
      wanted = b.wanted;
      needed = b.needed;
      line = last_origin b.lines.items;
      bodies = bodies_view b.bodies.items;
      kept = length b.lines.items + length b.items.items;
      taken = length b.filled.items - b.filled_before;
      tested = b.tested;
    }

-- each of some numbers is needed
abbrev pub AllAreNeeded : List Bool → List ℕ → Type 0
AllAreNeeded needed numbers = All (λ number. slice_index_or needed number false ≡ true) numbers

-- the slots that are needed and have no answer are open, and no others
abbrev pub AreOpen : {X : Type 0} → List Bool → List (Option X) → List Bool → Type 0
AreOpen needed slots is_open =
    (length is_open ≡ length slots) × ((number : ℕ) →
    slice_index_or is_open number false ≡ (slice_index_or needed number false && is_none (slice_index_or slots number None)))

-- there is a body for each slot, and each item of a body has a slot
pub record BodiesFit (slots : ℕ) (bodies : List (List TrackedAssignment)) : Type 0 where
  pub same_length : length bodies ≡ slots
  pub in_bodies : BodiesHaveSlots slots bodies

pub record AreSoundSlots (b : Inside) : Type 0 where
  pub same_length : length b.wanted ≡ length b.slots.items
  pub needed_length : length b.needed ≡ length b.slots.items
  pub among : AreFlagsAmong b.wanted b.needed
  pub bodies : BodiesFit (length b.slots.items) (bodies_view b.bodies.items)
  pub opened : AreOpen b.needed b.slots.items b.is_open.items
  pub flagged : b.is_wanted.items ≡ b.wanted
  pub filled_needed : AllAreNeeded b.needed b.filled.items
  pub within : AreMatchRefs (kept_parts b) b.slots.items
  pub counted : b.remaining ≡ count_remaining b.wanted b.slots.items
  pub listed : AreListed b.slots.items b.filled.items
  pub before : b.filled_before ≤ length b.filled.items
  pub ordered : b.is_ordered ≡ true → IsStrictlyIncreasing b.filled.items

-- Answers by the indexes of their parts in what is kept (own).
use Rattle.std.specs.Prelude.{◌≡◌, ℕ, ⊤, ◌<◌, length, List, map, All, Option, MatchOption, option_map, slice_index_or}
use Rattle.attr_lists.specs.declared.types.TrackedAssignment.{TrackedAssignment}
use Rattle.attr_table.specs.Setting.{Origin}
use Rattle.attr_search.specs.Slots.{Matched}
use Rattle.attr_search.specs.declared.item_index.ItemIndex.{ItemIndex}
use Rattle.attr_search.specs.inner.Pending.{IsInside, indexed_item, item_answer}
use Rattle.attr_search.specs.inner.PartsContents.{Grows, PartsContent}
use Rattle.attr_search.specs.shared.Slotted.{no_origin}
use Rattle.attr_search.specs.declared.answer_parts.MatchRef.{MatchRef}

-- where a kept line is
abbrev pub line_by_ref : PartsContent → ℕ → Origin
line_by_ref parts l = slice_index_or parts.lines l no_origin

-- the answer with some parts
abbrev pub match_by_ref : PartsContent → MatchRef → Matched
match_by_ref parts m = item_answer (line_by_ref parts m.line) parts.bodies (indexed_item parts.items parts.bodies m.at) m.at.cause

-- the indexes of an answer are in use
pub record IsMatchRef (parts : PartsContent) (m : MatchRef) : Type 0 where
  pub line : m.line < length parts.lines
  pub item : IsInside parts.items parts.bodies m.at

-- the answers in slots
abbrev pub matches_by_ref : PartsContent → List (Option MatchRef) → List (Option Matched)
matches_by_ref parts slots = map (λ slot. option_map (match_by_ref parts) slot) slots

abbrev pub AreMatchRefs : PartsContent → List (Option MatchRef) → Type 0
AreMatchRefs parts slots = All (λ slot. MatchOption slot ⊤ (IsMatchRef parts)) slots

-- an item of a line, or of a body, is kept at an index beside what was kept before: whatever the bodies are, it is there
pub record KeepsItem (line : List TrackedAssignment) (at : ItemIndex) (before after : List TrackedAssignment) (index : ℕ) : Type 0 where
  pub grows : Grows before after
  pub inside : (bodies : List (List TrackedAssignment)) → IsInside line bodies at →
      IsInside after bodies (record { cause = at.cause; index = index })
  pub found : (bodies : List (List TrackedAssignment)) → IsInside line bodies at →
      indexed_item after bodies (record { cause = at.cause; index = index }) ≡ indexed_item line bodies at

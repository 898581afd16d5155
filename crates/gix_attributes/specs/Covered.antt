-- Which lists have slots for all their numbers (own).
use Rattle.std.specs.Prelude.{ℕ, ⊤, ◌<◌, List, All, MatchOption}
use Rattle.attr_lists.specs.ListViews.{Entry}
use Rattle.attr_search.specs.ListView.{Listed}
use Rattle.attr_search.specs.Settings.{HaveSlots}

-- the line's items have slots, and so has the macro that it defines
pub record IsCovered (n : ℕ) (entry : Entry) : Type 0 where
  pub items : HaveSlots n entry.items
  pub macro : MatchOption entry.macro ⊤ (λ id. id.0 < n)

-- all lines of a list
abbrev pub AreCovered : ℕ → List Entry → Type 0
AreCovered n entries = All (IsCovered n) entries

-- all lists
abbrev pub ListsAreCovered : ℕ → List Listed → Type 0
ListsAreCovered n lists = All (λ list. AreCovered n list.lines) lists

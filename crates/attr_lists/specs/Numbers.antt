-- Numbers of names (own): a name gets the next number when it is first seen, and keeps it.
use Rattle.std.specs.Prelude.{◌≡◌, ℕ, ◌-◌, ◌^◌, List, [], ◌∷◌, ◌++◌, map, fold, position, slice_get, bytes_eq, Option, Some}
use Rattle.std.specs.Prelude.{unwrap_or, option_map, All, if◌then◌else◌}
use Rattle.std.specs.List.{list_any, flat_map}
use Rattle.attr_lists.specs.ListViews.{Entry}
use Rattle.attr_lists.specs.declared.types.AttributeId.{AttributeId}
use Rattle.attr_lists.specs.declared.types.TrackedAssignment.{TrackedAssignment}

-- the number that no attribute has: the largest `usize`
abbrev pub no_number : ℕ
no_number = 2 ^ 64 - 1

-- the name of the macro that a line defines: the text of its pattern
abbrev pub macro_names : Entry → List (List ℕ)
macro_names entry = unwrap_or (option_map (λ _. entry.pattern.text ∷ []) entry.macro) []

-- the names of a line: the macro that it defines before its items
abbrev pub names_of : Entry → List (List ℕ)
names_of entry = macro_names entry ++ map (λ item. item.inner.name) entry.items

-- the names of a list, line by line
abbrev pub names_in : List Entry → List (List ℕ)
names_in entries = flat_map names_of entries

-- a new name gets the next number
abbrev pub with_name : List (List ℕ) → List ℕ → List (List ℕ)
with_name names name = if list_any (bytes_eq name) names then names else names ++ name ∷ []

abbrev pub with_names : List (List ℕ) → List (List ℕ) → List (List ℕ)
with_names names more = fold with_name names more

-- the number of a name: its index among the names
abbrev pub number_of : List (List ℕ) → List ℕ → Option ℕ
number_of names name = position (bytes_eq name) names

-- the id of a name
abbrev pub id_of : List (List ℕ) → List ℕ → AttributeId
id_of names name = record { 0 = unwrap_or (number_of names name) no_number }

-- an item with the number of its name
abbrev pub numbered_item : List (List ℕ) → TrackedAssignment → TrackedAssignment
numbered_item names item = record { id = id_of names item.inner.name; inner = item.inner }

-- a line whose items, and the macro that it defines, have the numbers of their names
abbrev pub numbered : List (List ℕ) → Entry → Entry
numbered names entry =
    record {
      pattern = entry.pattern;
      macro = option_map (λ _. id_of names entry.pattern.text) entry.macro;
      items = map (numbered_item names) entry.items;
      line = entry.line;
    }

abbrev pub numbered_lines : List (List ℕ) → List Entry → List Entry
numbered_lines names entries = map (numbered names) entries

-- the id is the index of the name
abbrev pub IsNumberOf : List (List ℕ) → List ℕ → AttributeId → Type 0
IsNumberOf names name id = slice_get names id.0 ≡ Some name

-- each item has the number of its name
abbrev pub AreNamed : List (List ℕ) → List TrackedAssignment → Type 0
AreNamed names items = All (λ item. IsNumberOf names item.inner.name item.id) items

-- some names were appended, so each name keeps its number
abbrev pub AppendsNames : List (List ℕ) → List (List ℕ) → Type 0
AppendsNames old new = (more : List (List ℕ)) × (new ≡ old ++ more)

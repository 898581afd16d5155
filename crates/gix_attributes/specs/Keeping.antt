-- What calls that add or remove a list leave of the search, of its collection, and of other searches over it (own).
use Rattle.std.specs.Prelude.{◌≡◌, ◌≢◌, ℕ, List, [], ◌∷◌, ◌++◌, length, All}
use Rattle.attr_lists.specs.Collections.{Collection}
use Rattle.attr_lists.specs.Numbers.{AppendsNames}
use Rattle.attr_search.specs.Settings.{ListsAreNamed}
use Rattle.gix_attributes.specs.Additions.{RegisteredLists}
use Rattle.gix_attributes.specs.Covered.{ListsAreCovered}
use Rattle.gix_attributes.specs.Registers.{Registered, RegistersExactly, no_lists, registered_in, without_registered}
use Rattle.gix_attributes.specs.SearchViews.{Holds, list_ids_in}
use Rattle.gix_attributes.specs.declared.search.attributes.Search.{Search}

-- no list id is among the others
abbrev pub AreApart : List ℕ → List ℕ → Type 0
AreApart list_ids others = All (λ list_id. All (λ other. other ≢ list_id) others) list_ids

-- the collection holds each search that it held
abbrev pub KeepsSearches : Collection → Collection → Type 0
KeepsSearches before after = (search : Search) → Holds before search → Holds after search

-- a list is registered after all others
abbrev pub RegistersLast : Collection → Registered → Collection → Type 0
RegistersLast before registered after =
    (register : List Registered) → RegistersExactly before register → RegistersExactly after (register ++ registered ∷ [])

-- Names are only appended, so each keeps its number; lines that had the numbers of their names have them, and numbers of names if
-- they had such; and each other search, with no list id of this one, stays held and has none.
pub record Keeps (before after : RegisteredLists) : Type 0 where
  pub names : AppendsNames before.known.names after.known.names
  pub named : ListsAreNamed before.known.names before.lists → ListsAreNamed after.known.names after.lists
  pub covered : ListsAreCovered (length before.known.names) before.lists → ListsAreCovered (length after.known.names) after.lists
  pub others : (other : Search) → AreApart before.list_ids (list_ids_in other) → Holds before.known other →
      AreApart after.list_ids (list_ids_in other) × Holds after.known other

-- some lists come after those of the search, and are registered after all others; all searches stay held
pub record Adds (before after : RegisteredLists) : Type 0 where
  pub added : List Registered
  pub to_search : registered_in after ≡ registered_in before ++ added
  pub to_collection : (register : List Registered) → RegistersExactly before.known register →
      RegistersExactly after.known (register ++ added)
  pub held : KeepsSearches before.known after.known

-- the last list of the search goes, and is registered no more
pub record Removes (before after : RegisteredLists) : Type 0 where
  pub removed : Registered
  pub of_search : registered_in before ≡ registered_in after ++ removed ∷ []
  pub of_collection : (register : List Registered) → RegistersExactly before.known register →
      RegistersExactly after.known (without_registered removed.list_id register)

-- the lists that a call added before it was refused
pub record AddsBeforeRefusal (before after : Collection) : Type 0 where
  pub lists : RegisteredLists
  pub known : lists.known ≡ after
  pub kept : Keeps (no_lists before) lists
  pub added : Adds (no_lists before) lists

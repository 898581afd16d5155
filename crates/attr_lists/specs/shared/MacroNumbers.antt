-- The numbers of the names that have definitions (own).
use Rattle.std.specs.Prelude.{◌≡◌, ℕ, Bool, true, false, not, List, []}
use Rattle.std.specs.List.{list_all}
use Rattle.std.specs.BTreeSet.{BTreeSet, contains}
use Rattle.std.specs.Ordering.{nat_cmp}
use Rattle.attr_lists.specs.Collections.{Collection}
use Rattle.attr_lists.specs.Definitions.{definitions_of}
use Rattle.attr_lists.specs.KeptLists.{defines_no_macro}
use Rattle.attr_lists.specs.ListViews.{Entry}
use Rattle.attr_lists.specs.declared.name_table.entry.NameEntry.{NameEntry}
use Rattle.attr_lists.specs.inner.EntryViews.{definitions_at}

-- a name whose number isn't among these has no definition
abbrev pub ListsMacros : BTreeSet ℕ → Collection → Type 0
ListsMacros numbers known = (number : ℕ) → contains nat_cmp numbers number ≡ false → definitions_of known number ≡ []

-- some line defines a macro
abbrev pub defines_macros : List Entry → Bool
defines_macros entries = not (list_all defines_no_macro entries)

-- what was among the numbers is among them still
abbrev pub KeepsNumbers : BTreeSet ℕ → BTreeSet ℕ → Type 0
KeepsNumbers old new = (number : ℕ) → contains nat_cmp old number ≡ true → contains nat_cmp new number ≡ true

-- a number was removed only if its name has no definition
abbrev pub RemovesUndefined : List NameEntry → BTreeSet ℕ → BTreeSet ℕ → Type 0
RemovesUndefined entries old new =
    (number : ℕ) → contains nat_cmp old number ≡ true → contains nat_cmp new number ≡ false → definitions_at entries number ≡ []

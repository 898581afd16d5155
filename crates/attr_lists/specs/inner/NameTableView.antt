-- The view of a name table (own).
use Rattle.std.specs.Prelude.{◌≡◌, ℕ, List, length}
use Rattle.std.specs.BTreeSet.{BTreeSet}
use Rattle.attr_lists.specs.declared.name_table.NameTable.TheInside.{Inside}
use Rattle.attr_lists.specs.declared.name_table.entry.NameEntry.{NameEntry}
use Rattle.attr_lists.specs.Collections.{Collection}
use Rattle.attr_lists.specs.Definitions.{definitions_of, IsSoundCollection}
use Rattle.attr_lists.specs.inner.EntryViews.{definitions_at, AreEntries}
use Rattle.attr_lists.specs.inner.Registered.{registered_views, AreAscending}
use Rattle.attr_lists.specs.shared.MacroNumbers.{ListsMacros}

abbrev pub name_table_view : Inside → Collection
name_table_view table = record { names = table.names; lists = registered_views table.lists.items }

-- each name of a collection has an entry, which has the definitions that the lists have of it, and the macros are listed
pub record Describes (list : List NameEntry) (numbers : BTreeSet ℕ) (known : Collection) : Type 0 where
  pub sound : IsSoundCollection known
  pub counted : length list ≡ length known.names
  pub entries : AreEntries list
  pub defined : (number : ℕ) → definitions_at list number ≡ definitions_of known number
  pub ascending : AreAscending known.lists
  pub macros : ListsMacros numbers known

-- the parts of a table fit one another
abbrev pub IsNameTable : Inside → Type 0
IsNameTable table = Describes table.entries.items table.macros (name_table_view table)

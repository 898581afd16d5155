-- What clauses see of a worktree, and what is true of each (own).
use Rattle.std.specs.Prelude.{List, length}
use Rattle.gix_attributes.specs.Collections.{Collection}
use Rattle.gix_attributes.specs.Covered.{ListsAreCovered}
use Rattle.gix_attributes.specs.Keeping.{AreApart}
use Rattle.gix_attributes.specs.Registers.{Registered, RegistersExactly}
use Rattle.gix_attributes.specs.SearchViews.{Holds, list_ids_in, lists_in}
use Rattle.gix_attributes.specs.Settings.{ListsAreNamed}
use Rattle.gix_attributes.specs.declared.search.attributes.Search.{Search}
use Rattle.worktree.specs.Worktrees.{Files}
use Rattle.worktree.specs.declared.Worktree.TheInside.{Inside}

abbrev pub files_of : Inside → Files
files_of w =
    record {
      globals = lists_in w.globals;
      directories = lists_in w.directories;
      directory_ids = list_ids_in w.directories;
      known = w.collection;
    }

-- the lists of a search have the numbers of their names, and no others
pub record HasItsNumbers (known : Collection) (search : Search) : Type 0 where
  pub named : ListsAreNamed known.names (lists_in search)
  pub covered : ListsAreCovered (length known.names) (lists_in search)

-- The collection holds both searches, which share no list id; both are numbered by it; and what it registers is known.
pub record AreKept (globals directories : Search) (known : Collection) : Type 0 where
  pub globals_held : Holds known globals
  pub directories_held : Holds known directories
  pub apart : AreApart (list_ids_in directories) (list_ids_in globals)
  pub globals_numbered : HasItsNumbers known globals
  pub directories_numbered : HasItsNumbers known directories
  pub register : List Registered
  pub registered : RegistersExactly known register

abbrev pub IsKeptWorktree : Inside → Type 0
IsKeptWorktree w = AreKept w.globals w.directories w.collection

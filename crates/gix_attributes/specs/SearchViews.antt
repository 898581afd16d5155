-- The view of a search: its lists with their list ids (own).
use Rattle.std.specs.Prelude.{◌≡◌, ℕ, List, [], ◌∷◌, ◌++◌, nat_eq}
use Rattle.std.specs.List.{AllZip, IsDistinct}
use Rattle.attr_lists.specs.Collections.{Collection}
use Rattle.attr_lists.specs.Definitions.{without_list, HoldsList}
use Rattle.attr_search.specs.ListView.{Listed}
use Rattle.attr_glob.specs.declared.search.pattern.List.{List as PatternList}
use Rattle.attr_lists.specs.declared.types.Value.{Value}
use Rattle.attr_lists.specs.declared.types.Dropped.{Dropped}
use Rattle.attr_lists.specs.declared.parser.Attributes.{Attributes}
use Rattle.attr_search.specs.IndexedLists.{lists_view, list_ids_of, pattern_lists}
use Rattle.gix_attributes.specs.declared.search.attributes.Search.{Search}

-- the lists of a search, in the order of their addition
abbrev pub lists_in : Search → List Listed
lists_in search = lists_view search.patterns.lists.items

-- the same as they were read, which is what searches compare by
abbrev pub pattern_lists_in : Search → List (PatternList Attributes Value Dropped)
pattern_lists_in search = pattern_lists search.patterns.lists.items

-- the list ids under which a collection has registered them
abbrev pub list_ids_in : Search → List ℕ
list_ids_in search = list_ids_of search.patterns.lists.items

-- the lists are registered in a collection under these list ids, which differ, each with its definitions
pub record AreHeld (known : Collection) (list_ids : List ℕ) (lists : List Listed) : Type 0 where
  pub distinct : IsDistinct nat_eq list_ids
  pub each : AllZip (λ list_id list. HoldsList known list_id list.lines) list_ids lists

-- a collection holds a search if all its lists are registered there, as additions to both leave them
abbrev pub Holds : Collection → Search → Type 0
Holds known search = AreHeld known (list_ids_in search) (lists_in search)

-- the last of the list ids is gone
abbrev pub LosesLast : List ℕ → List ℕ → Type 0
LosesLast before after = (list_id : ℕ) × (before ≡ after ++ list_id ∷ [])

-- the list of the last of these list ids is removed from the collection, with its definitions
abbrev pub RemovesLast : List ℕ → Collection → Collection → Type 0
RemovesLast list_ids before after =
    (list_id : ℕ) × (others : List ℕ) × (list_ids ≡ others ++ list_id ∷ []) × (after ≡ without_list list_id before)

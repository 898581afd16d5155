-- The lists that apply to a path, by their numbers (own). Nothing here has to be believed.
use Rattle.std.specs.Prelude.{◌≡◌, ℕ, ◌<◌, false, Contains, List, Some, slice_get, vec_capacity, vec_len}
use Rattle.std.specs.List.Sorted.{IsNonDecreasing}
use Rattle.attr_wildmatch.specs.declared.case.Case.{Case}
use Rattle.attr_search.specs.declared.indexed_list.IndexedList.{IndexedList}
use Rattle.attr_search.specs.declared.indexed_lists.IndexedLists.{IndexedLists}
use Rattle.attr_search.specs.IndexedLists.{listed_view}
use Rattle.attr_search.specs.ListView.{rest_for}

-- there is room for one more list
pub record HasListRoom (lists : IndexedLists) : Type 0 where
  pub list : vec_len lists.lists < vec_capacity lists.lists
  pub spelled : 0 < lists.spelled.room
  pub folded : 0 < lists.folded.room

-- each list that has a line for paths and applies to the path is among those with these numbers, which don't fall
pub record AreListsFor (case : Case) (path : List ℕ) (lists : List IndexedList) (numbers : List ℕ) : Type 0 where
  pub all : (number : ℕ) (list : IndexedList) (rest : List ℕ) → slice_get lists number ≡ Some list →
      list.is_idle ≡ false → rest_for case path (listed_view list) ≡ Some rest → Contains numbers number
  pub rising : IsNonDecreasing numbers

-- The lists of a search, as clauses see them (own).
use Rattle.std.specs.Prelude.{ℕ, List, map}
use Rattle.attr_glob.specs.declared.search.pattern.List.{List as PatternList}
use Rattle.attr_lists.specs.declared.types.Value.{Value}
use Rattle.attr_lists.specs.declared.types.Dropped.{Dropped}
use Rattle.attr_lists.specs.declared.parser.Attributes.{Attributes}
use Rattle.attr_search.specs.declared.indexed_list.IndexedList.{IndexedList}
use Rattle.attr_search.specs.ListView.{Listed, list_view}

-- what a list has
abbrev pub listed_view : IndexedList → Listed
listed_view list = list_view list.list

-- the lists of a search, the last of which takes precedence
abbrev pub lists_view : List IndexedList → List Listed
lists_view lists = map listed_view lists

-- the lists as they were read, without list ids and indexes
abbrev pub pattern_lists : List IndexedList → List (PatternList Attributes Value Dropped)
pattern_lists lists = map (λ list. list.list) lists

-- the numbers under which they are active
abbrev pub list_ids_of : List IndexedList → List ℕ
list_ids_of lists = map (λ list. list.list_id) lists

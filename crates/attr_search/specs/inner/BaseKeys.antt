-- The keys and the lengths of the bases of lists (own). Nothing here has to be believed.
use Rattle.std.specs.Prelude.{ℕ, List, [], ◌∷◌, length, map, max}
use Rattle.attr_wildmatch.specs.declared.case.Case.{Case}
use Rattle.attr_wildmatch.specs.declared.case.Case.TheVariants.{Sensitive, Fold}
use Rattle.attr_glob.specs.Views.{base_bytes}
use Rattle.attr_search.specs.declared.indexed_list.IndexedList.{IndexedList}
use Rattle.attr_search.specs.inner.DirectoryKeys.{base_directory}

-- the key by which questions of a case find the list
abbrev pub key_in : Case → IndexedList → ℕ
key_in Sensitive list = list.base_keys.spelled
key_in Fold list = list.base_keys.folded

abbrev pub base_keys : Case → List IndexedList → List ℕ
base_keys case lists = map (key_in case) lists

-- the directory by which the list is found
abbrev pub directory_of : IndexedList → List ℕ
directory_of list = base_directory (base_bytes list.list.base)

-- the length of the longest of these
abbrev pub longest_base : List IndexedList → ℕ
longest_base [] = 0
longest_base (list ∷ lists) = max (length (directory_of list)) (longest_base lists)

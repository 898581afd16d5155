-- The lines that functions search (own). Nothing here has to be believed.
use Rattle.std.specs.Prelude.{ℕ, ◌==◌, ◌||◌, List, ◌∷◌, [], map, length, Bool, Option, Some, is_some}
use Rattle.bstr.specs.BStr.{bstr_bytes}
use Rattle.attr_wildmatch.specs.declared.case.Case.{Case}
use Rattle.attr_lists.specs.ListViews.{Entry}
use Rattle.attr_table.specs.Setting.{Line}
use Rattle.attr_table.specs.shared.Walk.{Task, backwards, line_tasks}
use Rattle.attr_search.specs.declared.path_query.PathQuery.{PathQuery}
use Rattle.attr_search.specs.ListView.{Listed}
use Rattle.attr_search.specs.inner.EntryAt.{entry_at}
use Rattle.attr_search.specs.Settings.{line_of, lines_of}

-- the tasks of a line, for what is left of a path below the base
abbrev pub entry_tasks : Case → Option Bool → Option (List ℕ) → List ℕ → Entry → List Task
entry_tasks case is_dir source rest entry = line_tasks (line_of case is_dir source (Some rest) entry)

-- the tasks of the line at an index of a list
abbrev pub listed_tasks : PathQuery → Listed → ℕ → List Task
listed_tasks rest listed index =
    entry_tasks rest.case rest.is_dir listed.source (bstr_bytes rest.path) (entry_at listed.lines index)

-- a line that defines a macro or has no items gives nothing to any path
abbrev pub gives_nothing : Entry → Bool
gives_nothing entry = is_some entry.macro || (length entry.items == 0)

-- the lines of a list, and those of lists, for the path of a query
abbrev pub query_lines : PathQuery → Listed → List Line
query_lines query listed = lines_of query.case query.is_dir (bstr_bytes query.path) listed

abbrev pub all_lines : PathQuery → List Listed → List (List Line)
all_lines query lists = map (query_lines query) lists

-- the tasks of each line of a list, and of lists, in the order of a search
abbrev pub list_rounds : List Line → List (List Task)
list_rounds lines = backwards (λ line. line_tasks line ∷ []) lines

abbrev pub rounds_of : List (List Line) → List (List Task)
rounds_of lists = backwards list_rounds lists

-- The files and lines of the examples.
use Rattle.std.specs.Prelude.{ℕ, zero, suc, List, [], ◌∷◌, ◌++◌, Some, None, false, codes}
use Rattle.attr_text.specs.declared.state.State.{State as NameState}
use Rattle.attr_text.specs.declared.state.State.TheVariants.{Set as SetName, Unset as UnsetName}
use Rattle.attr_glob.specs.Bases.{base_of}
use Rattle.attr_glob.specs.Patterns.{read_rest}
use Rattle.attr_lists.specs.KeptLists.{kept_list}
use Rattle.attr_lists.specs.ListViews.{Entry}
use Rattle.attr_lists.specs.Numbers.{numbered_lines}
use Rattle.attr_lists.specs.declared.types.TrackedAssignment.{TrackedAssignment}
use Rattle.attr_search.specs.ListView.{Listed}
use Rattle.attr_search.specs.Settings.{origin_in}
use Rattle.attr_search.specs.Slots.{Matched}
use Rattle.attr_table.specs.Setting.{Line, Setting, State, Set, Unset}
use Rattle.attr_table.specs.Table.{Root, Table}

-- the lines `*.c a` and `[attr]m a` of the file `sub/.gitattributes`
abbrev pub two_lines_below : Listed
two_lines_below =
    record {
      source = Some (codes "sub/.gitattributes");
      base = base_of (codes "sub/.gitattributes") (Some []);
      lines = kept_list (codes "*.c a" ++ 10 ∷ codes "[attr]m a");
    }

-- these lines of the file `.gitattributes`
abbrev pub at_the_top : List Entry → Listed
at_the_top lines = record { source = Some (codes ".gitattributes"); base = base_of (codes ".gitattributes") (Some []); lines = lines }

-- the lines `*.c a`, `x.c b` and `d/x c` of the file `.gitattributes`
abbrev pub three_lines : Listed
three_lines = at_the_top (kept_list (codes "*.c a" ++ 10 ∷ codes "x.c b" ++ 10 ∷ codes "d/x c"))

-- the names by number: `a` has 0, and `b` has 1
abbrev pub two_names : List (List ℕ)
two_names = codes "a" ∷ codes "b" ∷ []

-- an item with the number of its name
abbrev pub item_with : ℕ → List ℕ → NameState → TrackedAssignment
item_with number name state = record { id = record { 0 = number }; inner = record { name = name; state = state } }

-- the items `b` and `-a`
abbrev pub two_items : List TrackedAssignment
two_items = item_with 1 (codes "b") SetName ∷ item_with 0 (codes "a") UnsetName ∷ []

-- the line `* b -a`
abbrev pub entry_of_two : Entry
entry_of_two = record { pattern = read_rest false (codes "*"); macro = None; items = two_items; line = 1 }

-- the list of this line
abbrev pub line_of_two : Listed
line_of_two = at_the_top (entry_of_two ∷ [])

-- the answer of this line for `b`
abbrev pub answer_for_b : Matched
answer_for_b =
    record {
      origin = origin_in (Some (codes ".gitattributes")) entry_of_two;
      assignment = record { name = codes "b"; state = SetName };
      is_macro = false;
      cause = None;
    }

-- the lines `* a` and `* -a` of the file `.gitattributes`, where `a` has number 0
abbrev pub two_lines_read : Listed
two_lines_read = at_the_top (numbered_lines (codes "a" ∷ []) (kept_list (codes "* a" ++ 10 ∷ codes "* -a")))

-- the line of this number, with the pattern `*`, gives attribute 0 this state
abbrev pub line_with : ℕ → State → Line
line_with number state =
    record {
      origin = record { text = codes "*"; mode = 3; wildcard = Some 0; source = Some (codes ".gitattributes"); line = number };
      items = record { attribute = 0; state = state } ∷ [];
    }

-- the setting of these lines, for a path that both match
abbrev pub two_lines : Setting
two_lines = record { lists = (line_with 1 Set ∷ line_with 2 Unset ∷ []) ∷ []; bodies = [] }

-- `a` is decided by the only item of the second line
abbrev pub later_line : Table
later_line zero = Some (Root 0 1 0)
later_line (suc a) = None

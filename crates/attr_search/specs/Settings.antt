-- The setting of a search. The gitattributes page: "When the pattern matches the path in question, the attributes listed on the
-- line are given to the path". Candidates and slots are own.
use Rattle.std.specs.Prelude.{◌≡◌, ℕ, ◌<◌, Bool, false, ◌&&◌, List, [], map, length, sum_by, All, Option, Some, None, MatchOption, ⊤}
use Rattle.std.specs.Prelude.{is_none, is_some, slice_get, slice_index_or, if◌then◌else◌}
use Rattle.std.specs.List.{list_any}
use Rattle.attr_wildmatch.specs.declared.case.Case.{Case}
use Rattle.attr_glob.specs.BaseNames.{base_name}
use Rattle.attr_glob.specs.Candidates.{candidates}
use Rattle.attr_glob.specs.Paths.{path_matches}
use Rattle.attr_lists.specs.ListViews.{Entry}
use Rattle.attr_lists.specs.Numbers.{AreNamed}
use Rattle.attr_lists.specs.declared.types.TrackedAssignment.{TrackedAssignment}
use Rattle.attr_table.specs.Setting.{Origin, Line, Setting}
use Rattle.attr_table.specs.Table.{Slots}
use Rattle.attr_search.specs.ListView.{Listed, rest_for}
use Rattle.attr_search.specs.Slots.{Matched, table_items}

-- A line gives its items if its list applies to the path, the line defines no macro, and its pattern matches what is left
-- of the path below the base.
abbrev pub gives : Case → Option Bool → Option (List ℕ) → Entry → Bool
gives case is_dir None entry = false
gives case is_dir (Some rest) entry = is_none entry.macro && path_matches case entry.pattern rest is_dir

-- where a line is: its pattern, its list's source and its number
abbrev pub origin_in : Option (List ℕ) → Entry → Origin
origin_in source entry =
    record {
      text = entry.pattern.text;
      mode = entry.pattern.mode;
      wildcard = entry.pattern.wildcard;
      source = source;
      line = entry.line;
    }

-- a line, with its items if it gives them and with none otherwise
abbrev pub line_of : Case → Option Bool → Option (List ℕ) → Option (List ℕ) → Entry → Line
line_of case is_dir source rest entry =
    record { origin = origin_in source entry; items = if gives case is_dir rest entry then table_items entry.items else [] }

-- the lines of a list
abbrev pub lines_of : Case → Option Bool → List ℕ → Listed → List Line
lines_of case is_dir path listed = map (line_of case is_dir listed.source (rest_for case path listed)) listed.lines

-- the setting of a search: its lists, the last of which takes precedence, and the bodies by number
abbrev pub setting_of : List Listed → List (List TrackedAssignment) → List ℕ → Case → Option Bool → Setting
setting_of lists bodies path case is_dir =
    record { lists = map (lines_of case is_dir path) lists; bodies = map table_items bodies }

-- how many lines of a list are candidates for what is left below its base
abbrev pub candidates_below : Case → Option (List ℕ) → List Entry → ℕ
candidates_below case None lines = 0
candidates_below case (Some rest) lines = length (candidates case (base_name rest) (map (λ entry. entry.pattern) lines))

-- how many lines of a list are candidates for the path
abbrev pub candidates_in : Case → List ℕ → Listed → ℕ
candidates_in case path listed = candidates_below case (rest_for case path listed) listed.lines

-- how many lines of all lists are
abbrev pub candidate_lines : List Listed → List ℕ → Case → ℕ
candidate_lines lists path case = sum_by (candidates_in case path) lists

-- some wanted attribute had no answer, and has one now
abbrev pub is_found : List ℕ → Slots → Slots → Bool
is_found wanted before after = list_any (λ w. is_none (before w) && is_some (after w)) wanted

-- each item's attribute has one of n slots
abbrev pub HaveSlots : ℕ → List TrackedAssignment → Type 0
HaveSlots n items = All (λ i. i.id.0 < n) items

-- the items of all bodies, and of all lines of lists, have the numbers of their names, and so have the answers
abbrev pub BodiesAreNamed : List (List ℕ) → List (List TrackedAssignment) → Type 0
BodiesAreNamed names bodies = All (AreNamed names) bodies

abbrev pub LinesAreNamed : List (List ℕ) → List Entry → Type 0
LinesAreNamed names lines = All (λ entry. AreNamed names entry.items) lines

abbrev pub ListsAreNamed : List (List ℕ) → List Listed → Type 0
ListsAreNamed names lists = All (λ listed. LinesAreNamed names listed.lines) lists

abbrev pub HeldAreNamed : List (List ℕ) → List (Option Matched) → Type 0
HeldAreNamed names answers =
    (a : ℕ) → MatchOption (slice_index_or answers a None) ⊤ (λ m. slice_get names a ≡ Some m.assignment.name)

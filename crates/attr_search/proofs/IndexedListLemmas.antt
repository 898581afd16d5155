-- What is made of a list's patterns stays theirs when the list is numbered.
use Rattle.std.proofs.Common.{arith, ◌≡◌, ℕ, ◌<◌, false, List, [], ◌∷◌, length, get_or, map, Option, sym, ap, ◌∙◌}
use mathlib.Core.List.{map-map}
use Rattle.std.proofs.lemmas.List.{length-map, get_or-map}
use Rattle.std.proofs.lemmas.List.Elements.{All-nil, All-cons, All-head, All-tail}
use Rattle.attr_glob.specs.declared.search.pattern.Mapping.{Mapping}
use Rattle.attr_glob.specs.Patterns.{Reading}
use Rattle.attr_glob.specs.Views.{pattern_view}
use Rattle.attr_lists.specs.declared.types.Value.{Value}
use Rattle.attr_lists.specs.ListViews.{Entry, entry_view, entries_view}
use Rattle.attr_lists.specs.Numbers.{numbered, numbered_lines}
use Rattle.attr_glob.specs.declared.search.pattern.indexed_line.IndexedLine.{IndexedLine}
use Rattle.attr_glob.specs.Indexed.{NumberedPattern, indexed_line, indexed_lines, listed_lines}
use Rattle.attr_glob.proofs.ForCallers.{lines_length}
use Rattle.attr_wildmatch.proofs.ForCallers.{by_test}
use Rattle.attr_search.specs.declared.indexed_list.IndexedList.{IndexedList}
use Rattle.attr_search.specs.inner.EntryAt.{entry_at, no_entry}
use Rattle.attr_search.specs.shared.ReadLines.{IsRead, AreRead}

-- the patterns and the numbers of a list's lines
abbrev numbered_pattern : Entry → NumberedPattern
numbered_pattern e = record { pattern = e.pattern; number = e.line }

lines-entries : (mappings : List (Mapping Value)) → listed_lines mappings ≡ map numbered_pattern (entries_view mappings)
lines-entries mappings = sym (map-map numbered_pattern entry_view mappings)

-- the pattern of the line with an index is that of the line of the list there
pub entry_pattern : (lines : List IndexedLine) (ms : List (Mapping Value)) (index : ℕ) (line : IndexedLine) → indexed_lines lines ≡ listed_lines ms →
    index < length ms → line ≡ get_or lines index line → (entry_at (entries_view ms) index).pattern ≡ pattern_view line.pattern
entry_pattern lines ms index line e lt is =
    let same = lines_length lines ms e in
    let n = length-map ms entry_view in
    let d = indexed_line line in
    ap (λ (x : NumberedPattern). x.pattern)
    (sym (get_or-map numbered_pattern (entries_view ms) index no_entry d (omega (arith, n, lt)))
    ∙ (ap (λ ns. get_or ns index d) (sym (e ∙ lines-entries ms))
    ∙ (get_or-map indexed_line lines index line d (omega (arith, same, lt)) ∙ ap indexed_line (sym is))))

-- a list that has lines in its index is not idle
pub record IsBusyAt (list : IndexedList) (index : ℕ) : Type 0 where
  pub busy : list.is_idle ≡ false
  pub lines : indexed_lines list.index.value.lines.items ≡ listed_lines list.list.patterns.items
  pub within : index < length list.list.patterns.items

pub busy_lines : (list : IndexedList) → list.is_idle ≡ false → indexed_lines list.index.value.lines.items ≡ listed_lines list.list.patterns.items
busy_lines list busy = rw busy at list.lines

pub busy_at : (list : IndexedList) (index : ℕ) → index < length list.index.value.lines.items → IsBusyAt list index
busy_at list index lt =
    let busy = by_test list.is_idle (λ idle. absurd (grind (arith, length-map, list.lines))) (λ busy. busy) in
    let lines = busy_lines list busy in
    record { busy = busy; lines = lines; within = grind (arith, lines_length list.index.value.lines.items list.list.patterns.items lines) }

-- lists that have the same lines
pub same_lines : (before after : List (Mapping Value)) → entries_view after ≡ entries_view before → listed_lines after ≡ listed_lines before
same_lines before after e = lines-entries after ∙ ap (map numbered_pattern) e ∙ sym (lines-entries before)

entry-numbered : (names : List (List ℕ)) (pattern : Reading) (items : List _) (line : ℕ) (macro : Option _)
    → IsRead (record { pattern = pattern; macro = macro; items = items; line = line }) → IsRead
    (numbered names (record { pattern = pattern; macro = macro; items = items; line = line }))
entry-numbered names pattern items line macro h = grind arith

-- and what was read of pattern texts still is
pub numbered_read : (names : List (List ℕ)) (entries : List Entry) → AreRead entries → AreRead (numbered_lines names entries)
numbered_read names [] h = All-nil IsRead
numbered_read names (e ∷ es) h =
    All-cons IsRead (numbered names e) (numbered_lines names es) (entry-numbered names e.pattern e.items e.line e.macro (All-head IsRead e es h))
    (numbered_read names es (All-tail IsRead e es h))

-- What a list has, wherever it is in memory (own).
use Rattle.std.specs.Prelude.{ℕ, List, Option, option_map, string_bytes}
use Rattle.attr_wildmatch.specs.declared.case.Case.{Case}
use Rattle.attr_glob.specs.declared.search.pattern.List.{List as PatternList}
use Rattle.attr_glob.specs.Bases.{rest_below}
use Rattle.attr_glob.specs.Views.{base_bytes}
use Rattle.attr_lists.specs.declared.types.Value.{Value}
use Rattle.attr_lists.specs.declared.types.Dropped.{Dropped}
use Rattle.attr_lists.specs.declared.parser.Attributes.{Attributes}
use Rattle.attr_lists.specs.ListViews.{Entry, entries_view}

-- what a list has: where it was read, the base below which it applies, and its lines
pub record Listed : Type 0 where
  pub source : Option (List ℕ)
  pub base : Option (List ℕ)
  pub lines : List Entry

-- what is left of the path below the list's base, if the list applies to the path
abbrev pub rest_for : Case → List ℕ → Listed → Option (List ℕ)
rest_for case path listed = rest_below listed.base case path

abbrev pub list_view : PatternList Attributes Value Dropped → Listed
list_view list =
    record { source = option_map string_bytes list.source; base = base_bytes list.base; lines = entries_view list.patterns.items }

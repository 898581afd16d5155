use Rattle.std.proofs.Common.{take}
use Rattle.attr_search.specs.IndexedLists.{listed_view}
use Rattle.attr_search.specs.inner.Searched.{KeepsState, SearchedLines}
use Rattle.attr_search.proofs.search_state.SearchState.search_lines.Given as goal

abbrev pub invariant-loop-line : goal.invariant-loop-line
invariant-loop-line l = record {
  kept : KeepsState l.initial.self.slots l.self.slots;
  searched : SearchedLines l.rest (listed_view l.list) (take l.line-index l.indexes) l.initial.self.slots l.self.slots;
}

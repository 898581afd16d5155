use Rattle.std.proofs.Common.{◌≤◌, drop, length}
use Rattle.attr_search.specs.IndexedLists.{lists_view}
use Rattle.attr_search.specs.inner.Searched.{KeepsState, SearchedLists}
use Rattle.attr_search.proofs.SearchedLemmas.{AreLeft}
use Rattle.attr_search.proofs.search_state.SearchState.search_numbers.Given as goal

abbrev pub invariant-loop-k : goal.invariant-loop-k
invariant-loop-k l = record {
  bound : l.bound ≤ length l.lists;
  left : AreLeft l.query l.lists l.bound l.k l.numbers;
  kept : KeepsState l.initial.self.slots l.self.slots;
  searched : SearchedLists l.query (lists_view (drop l.bound l.lists)) l.initial.self.slots l.self.slots;
}

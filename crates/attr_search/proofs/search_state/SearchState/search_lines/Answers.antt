use Rattle.std.proofs.Common.{arith}
use Rattle.std.proofs.lemmas.List.{get_or_default}
use Rattle.attr_search.specs.IndexedLists.{listed_view}
use Rattle.attr_search.proofs.SearchedLemmas.{indexes_done, line_of_query, more_indexes, nothing_searched, state_kept, then_kept}
use Rattle.attr_search.proofs.search_state.SearchState.search_lines.Goals as goal

pub loop-line-init : goal.loop-line-init
loop-line-init c = record { kept = state_kept c.args.self.now.slots; searched = nothing_searched 0 c.args.self.now.slots }

pub returns-then-is_done : goal.returns-then-is_done
returns-then-is_done c = grind (arith, indexes_done)

pub loop-line-preserved : goal.loop-line-preserved
loop-line-preserved c = record {
  kept = then_kept _ _ _ c.loop-line.invariant.kept c.search_line.ensures.kept;
  searched = more_indexes c.args.rest (listed_view c.args.list.now) c.args.indexes.now c.loop-line.line-index _ _ _ _ c.loop-line.invariant.kept
      c.loop-line-test.true (get_or_default c.args.indexes.now c.loop-line.line-index 0 _ c.loop-line-test.true) c.loop-line.invariant.searched
      (line_of_query c.for_lines-query.result c.args.rest (listed_view c.args.list.now) _ _ _ c.for_lines-query.ensures.path
      c.for_lines-query.ensures.case c.for_lines-query.ensures.is_dir c.in_ok-search_line.ensures.done);
}

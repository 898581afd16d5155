use Rattle.std.proofs.Common.{arith, sym, ◌∙◌, rules}
use Rattle.std.proofs.lemmas.Result.{on_ok_weaker}
use Rattle.attr_glob.proofs.ForCallers.{lines_length}
use Rattle.attr_search.specs.IndexedLists.{listed_view}
use Rattle.attr_search.proofs.CandidateLemmas.{tried_fit}
use Rattle.attr_search.proofs.IndexedListLemmas.{busy_lines}
use Rattle.attr_search.proofs.SearchedLemmas.{list_apart, list_by_candidates, list_idle, state_kept}
use Rattle.attr_search.proofs.search_state.SearchState.search_list.Goals as goal

pub returns-in_default : goal.returns-in_default
returns-in_default c = record {
  kept = state_kept c.args.self.now.slots;
  done = list_apart c.args.query (listed_view c.args.list.now) c.args.self.now.slots c.in_default.ensures.path;
}

pub returns-then-list : goal.returns-then-list
returns-then-list c = record {
  kept = state_kept c.args.self.now.slots;
  done = list_idle c.args.query c.args.list.now c.args.self.now.slots (sym c.args.list.now.idle ∙ c.if-list.true);
}

pub returns-in_err-indexes : goal.returns-in_err-indexes
returns-in_err-indexes c = record { kept = state_kept c.args.self.now.slots; done = search rules }

pub search_lines-searched-requires-clause-indexes : goal.search_lines-searched-requires-clause-indexes
search_lines-searched-requires-clause-indexes c = grind (arith, tried_fit, busy_lines, lines_length)

pub returns : goal.returns
returns c =
    let found = rw (← c.deref.ensures.value) at c.in_ok-indexes.ensures in
    let part = c.search_lines-searched.ensures in
    (record {
      kept = part.kept;
      done = on_ok_weaker c.search_lines-searched.result
          (λ searched. list_by_candidates c.args.query c.in-Some.rest c.args.list.now c.deref.result.now c.args.self.now.slots
          c.search_lines-searched.new.self.slots c.in-Some.ensures.path c.in-Some.ensures.case c.in-Some.ensures.is_dir found searched) part.done;
    })

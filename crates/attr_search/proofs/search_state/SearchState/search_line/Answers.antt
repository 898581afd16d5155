use Rattle.std.proofs.Common.{◌∙◌, ap, refl, inr, arith}
use Rattle.std.proofs.lemmas.Result.{on_ok_weaker}
use Rattle.attr_search.specs.IndexedLists.{listed_view}
use Rattle.attr_search.specs.inner.Searched.{over, round}
use Rattle.attr_search.specs.shared.SlotContents.{open_slots}
use Rattle.attr_search.specs.shared.Slotted.{index_origin}
use Rattle.attr_search.proofs.EntryAtLemmas.{entry_is}
use Rattle.attr_search.proofs.IndexedListLemmas.{busy_at}
use Rattle.attr_search.proofs.LineLemmas.{line_defines, line_differs, line_filled, line_matched, named_at, none_told, origin_is, slots_at}
use Rattle.attr_search.proofs.SearchedLemmas.{state_kept}
use Rattle.attr_search.proofs.search_state.SearchState.search_line.Goals as goal

pub returns-in_default : goal.returns-in_default
returns-in_default c =
    let at = busy_at c.args.list.now c.args.index c.requires.index in
    let lt = at.within in
    grind (arith, lt, state_kept, line_defines)

pub last_free-requires-clause-slots : goal.last_free-requires-clause-slots
last_free-requires-clause-slots c =
    let at = busy_at c.args.list.now c.args.index c.requires.index in
    slots_at _ c.args.list.now.list.patterns.items _ _ _ at.within c.index-mapping.ensures c.in-Some.ensures.items c.requires.in_lines

pub returns-then-is_none : goal.returns-then-is_none
returns-then-is_none c =
    let at = busy_at c.args.list.now c.args.index c.requires.index in
    record {
      kept = state_kept c.args.self.now.slots;
      done = line_filled c.args.rest c.args.list.now c.args.index _ c.in-Some.items.now _ at.within c.index-mapping.ensures
          c.in-Some.ensures.items (none_told _ (open_slots c.args.self.now.slots) _ _ c.last_free.ensures c.if-is_none.ensures);
    }

pub matches-requires-clause-no_macro : goal.matches-requires-clause-no_macro
matches-requires-clause-no_macro c =
    let at = busy_at c.args.list.now c.args.index c.requires.index in
    ap (λ e. e.macro) (entry_is c.args.list.now.list.patterns.items c.args.index c.index-mapping.result.now at.within c.index-mapping.ensures)
    ∙ c.in-Some.ensures.line

pub returns-then-not-branch : goal.returns-then-not-branch
returns-then-not-branch c =
    let rises = rw c.count_line.ensures.counted at c.count_line.ensures.rises in
    record {
      kept = rw c.count_line.ensures.counted (record { wanted = refl; needed = refl; bodies = refl; len = refl; skipped = λ a skip. refl });
      done = rw c.count_line.ensures.counted
          (line_differs c.args.rest (listed_view c.args.list.now) c.args.index _ c.args.self.now.slots c.in_ok-matches.field-0
          c.in_ok-matches.ensures c.if-not-branch.true (omega (arith, rises)) (omega arith));
    }

pub returns : goal.returns
returns c =
    let list = c.args.list.now in
    let ms = list.list.patterns.items in
    let mapping = c.index-mapping.result.now in
    let items = c.in-Some.items.now in
    let at = busy_at list c.args.index c.requires.index in
    let lt = at.within in
    let is = c.index-mapping.ensures in
    let kept = rw c.count_line.ensures.counted at c.fill_line.ensures.kept in
    let counted = ap (λ s. s.tested) c.count_line.ensures.counted in
    let rises = c.count_line.ensures.rises in
    let origin = origin_is list.index.value (listed_view list).source ms c.args.index mapping at.lines (list.source at.busy) lt is in
    record {
      kept = record { wanted = kept.wanted; needed = kept.needed; bodies = kept.bodies; len = kept.len; skipped = kept.skipped };
      done = on_ok_weaker c.fill_line.result
          (λ filled.
          let tested = filled.by.tested in
          let fills = rw c.count_line.ensures.counted at filled in
          record {
            named = λ names lines bodies held.
                fills.by.named names (named_at names ms c.args.index mapping items lt is c.in-Some.ensures.items lines) bodies held;
            tested = omega (arith, tested, counted);
            rounds = round (record {
              searches = line_matched c.args.rest list c.args.index mapping items c.args.self.now.slots _ _ c.in_ok-matches.field-0
                  (index_origin list.index.value c.args.index) lt is c.in-Some.ensures.items c.in-Some.ensures.line c.in_ok-matches.ensures
                  c.if-not-branch.false origin fills.searches;
              changed = inr (omega (arith, tested, counted));
              counted = omega (arith, tested, rises);
            }) over;
          }) c.fill_line.ensures.done;
    }

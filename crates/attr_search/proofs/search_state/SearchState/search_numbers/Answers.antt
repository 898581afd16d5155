use Rattle.std.proofs.Common.{rules, ◌≡◌, ◌+◌, ◌-◌, ◌<◌, ◌∷◌, ap, arith, drop, get_or, length, subst, sym, ◌∙◌}
use Rattle.std.proofs.lemmas.List.{drop_all, drop_more}
use Rattle.attr_search.specs.IndexedLists.{listed_view, lists_view}
use Rattle.attr_search.specs.inner.Searched.{SearchedLists}
use Rattle.attr_search.proofs.SearchedLemmas.{AreLeft, all_left, apart_above, apart_below, left_less, list_slots, lists_done, more_lists}
use Rattle.attr_search.proofs.SearchedLemmas.{nothing_searched, skip_lists, state_kept, then_kept}
use Rattle.attr_search.proofs.search_state.SearchState.search_numbers.Goals as goal

pub loop-k-init : goal.loop-k-init
loop-k-init c = search (rules, drop_all, all_left, state_kept, nothing_searched)

pub returns-then-is_done : goal.returns-then-is_done
returns-then-is_done c = grind (arith, lists_done)

pub search_list-requires : goal.search_list-requires
search_list-requires c =
    let lt = c.if-number-bound.true in
    let le = c.loop-k.invariant.bound in
    record {
      in_lines = list_slots (length c.args.self.now.slots.answers) (length c.loop-k.self.slots.answers) c.args.lists.now
          (get_or c.args.numbers.now (c.loop-k.k - 1) 0) c.index-lists-number.result c.loop-k.invariant.kept.len (omega (arith, lt, le))
          c.index-lists-number.is c.requires.in_lists;
    }

pub loop-k-preserved-then-number-bound : goal.loop-k-preserved-then-number-bound
loop-k-preserved-then-number-bound c =
    let query = c.args.query in
    let lists = c.args.lists.now in
    let numbers = c.args.numbers.now in
    let list = c.index-lists-number.result in
    let number = get_or numbers (c.loop-k.k - 1) 0 in
    let inv = c.loop-k.invariant in
    let lt = c.if-number-bound.true in
    let le = inv.bound in
    let more = c.loop-k-test.true in
    let most = c.loop-k.auto.k in
    let below : number < length lists = omega (arith, lt, le) in
    let back : c.loop-k.k ≡ c.loop-k.k - 1 + 1 = omega (arith, more) in
    let left = subst (λ n. AreLeft query lists c.loop-k.bound n numbers) back inv.left in
    let apart = apart_above query lists c.loop-k.bound (c.loop-k.k - 1) numbers (omega (arith, more, most)) c.requires.numbers.rising left in
    let after = skip_lists query lists (number + 1) c.loop-k.bound _ _ inv.kept (omega (arith, lt)) apart inv.searched in
    let from : drop number lists ≡ list ∷ drop (number + 1) lists =
    drop_more lists number list below ∙ ap (λ l. l ∷ drop (number + 1) lists) (sym c.index-lists-number.is) in
    record {
      bound = omega (arith, below);
      left = left_less query lists c.loop-k.bound number (c.loop-k.k - 1) numbers (omega (arith, lt)) (omega arith) left;
      kept = then_kept _ _ _ inv.kept c.search_list.ensures.kept;
      searched = subst (λ ls. SearchedLists query (lists_view ls) c.args.self.now.slots c.search_list.new.self.slots) (sym from)
          (more_lists query (listed_view list) (lists_view (drop (number + 1) lists)) _ _ _ inv.kept after c.in_ok-search_list.ensures.done);
    }

pub returns : goal.returns
returns c =
    let inv = c.loop-k.invariant in
    let apart = apart_below c.args.query c.args.lists.now c.loop-k.bound c.loop-k.k c.args.numbers.now c.loop-k-test.false inv.left in
    record {
      kept = inv.kept;
      done = skip_lists c.args.query c.args.lists.now 0 c.loop-k.bound _ _ inv.kept (omega arith) apart inv.searched;
    }

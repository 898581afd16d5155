use Rattle.std.proofs.Common.{subst, sym}
use Rattle.bstr.specs.BStr.{bstr_bytes}
use Rattle.attr_search.specs.inner.FoundLists.{AreListsFor}
use Rattle.attr_search.proofs.search_state.SearchState.search_lists.Goals as goal

pub search_numbers-searched-requires-clause-numbers : goal.search_numbers-searched-requires-clause-numbers
search_numbers-searched-requires-clause-numbers c =
    subst (λ lists. AreListsFor c.args.query.case (bstr_bytes c.args.query.path) lists c.in-Some.numbers.now) (sym c.deref.ensures.value)
    (c.in-Some.ensures.few c.args.query.case (bstr_bytes c.args.query.path))

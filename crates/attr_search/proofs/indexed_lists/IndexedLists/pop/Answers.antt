use Rattle.std.proofs.Common.{◌≤◌, subst, ◌∙◌}
use Rattle.attr_wildmatch.specs.declared.case.Case.TheVariants.{Sensitive, Fold}
use Rattle.attr_search.specs.inner.BaseKeys.{key_in, longest_base}
use Rattle.attr_search.proofs.DirectoryLemmas.{longest_popped, mapped_popped}
use Rattle.attr_search.proofs.indexed_lists.IndexedLists.pop.Goals as goal

pub invariant_of-self-2 : goal.invariant_of-self-2
invariant_of-self-2 c =
    let lists = c.args.self.now in
    let last = c.in_ok-last.last in
    let left = c.pop.new.self.items in
    let whole = c.in_ok-last.ensures.items in
    record {
      spelling = c.pop-2.ensures ∙ mapped_popped (key_in Sensitive) lists.spelled.keys lists.lists.items left last lists.spelling whole;
      folding = c.pop-3.ensures ∙ mapped_popped (key_in Fold) lists.folded.keys lists.lists.items left last lists.folding whole;
      within = longest_popped left last lists.longest (subst (λ ls. longest_base ls ≤ lists.longest) whole lists.within);
    }

use Rattle.std.proofs.Common.{List, ℕ, length, subst, take}
use Rattle.attr_glob.specs.Folding.{folded}
use Rattle.attr_search.specs.inner.BaseKeys.{base_keys}
use Rattle.attr_search.specs.inner.DirectoryKeys.{GathersKeys, HasKeysBelow}
use Rattle.std.proofs.lemmas.List.Sorted.{Contains-permutation, IsNonDecreasingBy-from_sort}
use Rattle.attr_search.proofs.DirectoryLemmas.{list_found}
use Rattle.attr_search.proofs.indexed_lists.IndexedLists.find.Goals as goal

pub returns : goal.returns
returns c =
    let lists = c.args.self.now in
    let path = c.args.path.now in
    let Has : List ℕ → Type 0 = λ front. HasKeysBelow front (length front) c.read.new.self.keys.items in
    let Gathered : List ℕ → Type 0 = λ keys.
    GathersKeys (base_keys c.args.case lists.lists.items) keys (length keys) c.gather.new.numbers.items in
    record {
      all = λ number list rest has busy applies. Contains-permutation _ _ number c.sort_unstable.ensures.permutation
          (list_found lists.lists.items path c.read.new.self.keys.items c.gather.new.numbers.items rest lists.longest c.args.case number list
          lists.within (subst (λ n. Has (folded c.args.case (take n path))) c.min.ensures c.in_ok-read.ensures)
          (subst Gathered c.deref.ensures.value c.in_ok-gather.ensures) has busy applies);
      rising = IsNonDecreasingBy-from_sort (λ x. x) _ c.sort_unstable.ensures.sorted;
    }

use Rattle.std.proofs.Common.{sym, ap, ◌∙◌, arith, length}
use Rattle.attr_wildmatch.specs.declared.case.Case.TheVariants.{Sensitive, Fold}
use Rattle.attr_search.specs.inner.BaseKeys.{base_keys, key_in}
use Rattle.attr_search.proofs.DirectoryLemmas.{longest_pushed, mapped_pushed}
use Rattle.attr_search.proofs.indexed_lists.IndexedLists.push_reserved.Goals as goal

pub invariant_of-self : goal.invariant_of-self
invariant_of-self c =
    let lists = c.args.self.now in
    let list = c.args.list in
    let most = c.max-self.ensures in
    let text = ap length c.base_directory.ensures in
    let within = lists.within in
    let all = sym c.push_reserved-3.ensures.items in
    record {
      spelling = c.push_reserved.ensures ∙ mapped_pushed (key_in Sensitive) lists.spelled.keys lists.lists.items list lists.spelling
          ∙ ap (base_keys Sensitive) all;
      folding = c.push_reserved-2.ensures ∙ mapped_pushed (key_in Fold) lists.folded.keys lists.lists.items list lists.folding
          ∙ ap (base_keys Fold) all;
      within = grind (arith, longest_pushed);
    }

use Rattle.std.proofs.Common.{arith, ◌≡◌, ◌∙◌, ap, sym, subst, option_map, string_bytes}
use Rattle.std.specs.List.{list_all}
use Rattle.std.proofs.Math.Logic.{∥∥₁_map}
use Rattle.attr_lists.specs.ListViews.{entries_view}
use Rattle.attr_glob.specs.declared.search.pattern.index.Index.{Index}
use Rattle.attr_search.specs.inner.DirectoryKeys.{base_directory, keys_of}
use Rattle.attr_search.specs.inner.Lines.{gives_nothing}
use Rattle.attr_search.specs.shared.ReadLines.{AreRead}
use Rattle.attr_lists.proofs.ForCallers.{copied_lines}
use Rattle.attr_search.proofs.IndexedListLemmas.{same_lines}
use Rattle.attr_search.proofs.indexed_list.IndexedList.clone.Goals as goal

pub invariant_of-result : goal.invariant_of-result
invariant_of-result c =
    let own = c.args.self.now in
    let before = own.list.patterns.items in
    let copy = c.in_ok-list.list in
    let lines : entries_view copy.patterns.items ≡ entries_view before =
    copied_lines before copy.patterns.items c.in_ok-list.ensures.patterns in
    record {
      lines = grind (arith, same_lines, c.in_ok-index.ensures.cases);
      source = λ busy. ap (λ (x : Index). option_map string_bytes x.source) c.in_ok-index.ensures.cases ∙ own.source busy
          ∙ sym c.in_ok-list.ensures.source;
      based = λ busy. own.based busy ∙ ap (λ base. keys_of (base_directory base)) (sym c.in_ok-list.ensures.base);
      idle = own.idle ∙ ap (list_all gives_nothing) (sym lines);
      read = ∥∥₁_map own.read (subst AreRead (sym lines));
    }

pub returns-clause-list : goal.returns-clause-list
returns-clause-list c = grind (arith, copied_lines)

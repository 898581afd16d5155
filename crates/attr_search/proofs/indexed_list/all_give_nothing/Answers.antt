use Rattle.std.proofs.Common.{◌∙◌, rules, sym}
use Rattle.std.proofs.lemmas.Iterator.{YieldsList-from_slice}
use Rattle.std.proofs.lemmas.Iterator.Search.{all_from_yields_List}
use Rattle.std.proofs.lemmas.List.Folds.{list_all-map}
use Rattle.attr_lists.specs.ListViews.{entry_view}
use Rattle.attr_search.specs.inner.Lines.{gives_nothing}
use Rattle.attr_search.proofs.indexed_list.all_give_nothing.Goals as goal

pub returns : goal.returns
returns c =
    all_from_yields_List (λ m. gives_nothing (entry_view m)) _ _ c.all.result c.all.ensures.ran
    (YieldsList-from_slice c.args.mappings.now cc)
    (λ x b q k. search rules)
    ∙ sym (list_all-map gives_nothing entry_view c.args.mappings.now)

use Rattle.std.proofs.Common.{not, sym, ap, ◌∙◌, rules}
use Rattle.std.proofs.lemmas.List.Folds.{list_all-map}
use Rattle.std.proofs.lemmas.Iterator.{YieldsList-from_slice}
use Rattle.std.proofs.lemmas.Iterator.Search.{all_from_yields_List}
use Rattle.attr_lists.specs.ListViews.{entry_view}
use Rattle.attr_lists.specs.KeptLists.{defines_no_macro}
use Rattle.attr_lists.proofs.parser.defines_macros.Goals as goal

pub returns : goal.returns
returns c =
    ap not (all_from_yields_List (λ m. defines_no_macro (entry_view m)) _ _ c.all.result c.all.ensures.ran
    (YieldsList-from_slice c.args.mappings.now cc)
    (λ x b q k. search rules)
    ∙ sym (list_all-map defines_no_macro entry_view c.args.mappings.now))

use Rattle.std.proofs.lemmas.List.Elements.{All-map}
use Rattle.attr_lists.specs.ListViews.{entry_view}
use Rattle.gix_attributes.specs.Covered.{IsCovered}
use Rattle.gix_attributes.proofs.HoldsLemmas.{all_of_map}
use Rattle.gix_attributes.proofs.search.outcome.is_list_covered.Goals as goal

pub returns : goal.returns
returns c =
    let mappings = c.args.list.now.list.patterns.items in
    let same = c.deref.ensures.value in (
      λ t. All-map (IsCovered c.args.count) entry_view mappings (rw (← same) (c.are_lines_covered.ensures.0 t)),
      λ k. c.are_lines_covered.ensures.1 (rw same (all_of_map (IsCovered c.args.count) entry_view mappings k)),
    )

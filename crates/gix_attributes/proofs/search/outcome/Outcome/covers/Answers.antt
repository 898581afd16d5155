use Rattle.std.proofs.Common.{◌∙◌, ap, length}
use Rattle.std.proofs.lemmas.List.Elements.{All-map}
use Rattle.gix_attributes.specs.Covered.{AreCovered}
use Rattle.attr_search.specs.IndexedLists.{listed_view}
use Rattle.attr_search.specs.declared.indexed_lists.IndexedLists.{IndexedLists}
use Rattle.gix_attributes.proofs.HoldsLemmas.{all_of_map}
use Rattle.gix_attributes.proofs.search.outcome.Outcome.covers.Goals as goal

pub returns : goal.returns
returns c =
    let lists = c.args.search.now.patterns.lists.items in
    let n = length c.args.self.now.slots in
    let same = c.deref.ensures.value ∙ ap (λ (ls : IndexedLists). ls.lists.items) c.lists.ensures in (
      λ t. All-map (λ l. AreCovered n l.lines) listed_view lists (rw (← same, ← c.len.ensures) (c.are_covered.ensures.0 t)),
      λ k. c.are_covered.ensures.1 (rw (same, c.len.ensures) (all_of_map (λ l. AreCovered n l.lines) listed_view lists k)),
    )

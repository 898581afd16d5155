use Rattle.std.proofs.Common.{[], ◌∙◌, ap, arith, get_or, length, subst, sym}
use Rattle.std.proofs.lemmas.List.{length-map}
use Rattle.std.proofs.lemmas.List.Elements.{same_from_all_zip}
use Rattle.attr_lists.specs.inner.EntryViews.{AreEntries, all_definitions, definitions_view}
use Rattle.attr_lists.specs.inner.NameTableView.{name_table_view}
use Rattle.attr_lists.proofs.NameTableSteps.{still_whole}
use Rattle.attr_lists.proofs.RegisteredLemmas.{lists_copied}
use Rattle.attr_lists.proofs.name_table.NameTable.clone.Goals as goal

pub returns-clause-content : goal.returns-clause-content
returns-clause-content c = let lists = lists_copied _ _ c.in_ok-clone-2.ensures.cases.0 in grind (arith, lists)

pub invariant_of-result : goal.invariant_of-result
invariant_of-result c =
    let p = c.self.inside in
    let entries = c.in_ok-clone_entries.field-0.items in
    let definitions = c.in_ok-clone_entries.ensures.definitions ∙ ap all_definitions c.deref.ensures.value in
    rw (c.in_ok-clone.ensures, lists_copied _ _ c.in_ok-clone-2.ensures.cases.0)
    (still_whole p.entries.items entries p.macros c.in_ok-clone-3.field-0 (name_table_view p) c.self.invariant
    (omega (arith, ap length definitions, length-map entries definitions_view, length-map p.entries.items definitions_view))
    (c.in_ok-clone_entries.ensures.entries (subst AreEntries (sym c.deref.ensures.value) c.self.invariant.entries))
    (λ n. ap (λ l. get_or l n []) definitions) (λ n h. grind (arith, same_from_all_zip)))

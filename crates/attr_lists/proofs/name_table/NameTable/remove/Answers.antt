use Rattle.std.proofs.Common.{◌≡◌, ◌∙◌, ap, arith, length, map, subst, sym}
use Rattle.std.proofs.lemmas.List.{with_items_is}
use Rattle.attr_lists.specs.Collections.{RegisteredList}
use Rattle.attr_lists.specs.Definitions.{HoldsList}
use Rattle.attr_lists.specs.inner.EntryViews.{AreAllInOrder}
use Rattle.attr_lists.specs.inner.NameTableView.{name_table_view}
use Rattle.attr_lists.specs.inner.Registered.{numbered_body, registered_views, IsIndexOf}
use Rattle.attr_lists.proofs.NameTableLaws.{removed_keeps, Lack}
use Rattle.attr_lists.proofs.NameTableSteps.{all_in_order, left, left_whole, none_left, view_at}
use Rattle.attr_lists.proofs.name_table.NameTable.remove.Goals as goal

pub remove_list-requires : goal.remove_list-requires
remove_list-requires c = subst AreAllInOrder (sym c.deref_mut.ensures.value) (all_in_order c.self.invariant)

pub returns-in-Some-clause-removed : goal.returns-in-Some-clause-removed
returns-in-Some-clause-removed c =
    let p = c.self.inside in
    rw (c.remove-list.ensures.items, ← c.self.view_is)
    (left p.names p.lists.items c.in-Some.at c.args.list_id c.self.invariant.ascending (rw c.deref.ensures.value at c.in-Some.ensures))

pub invariant_of-self : goal.invariant_of-self
invariant_of-self c =
    let p = c.self.inside in
    let at = c.in-Some.at in
    let found : IsIndexOf c.args.list_id (registered_views p.lists.items) at = rw c.deref.ensures.value at c.in-Some.ensures in
    let kept : length c.remove_list.new.entries ≡ p.entries.len =
    omega (arith, c.remove_list.auto.entries, ap length c.deref_mut.ensures.value, p.entries.ok.0) in
    let items = with_items_is p.entries c.remove_list.new.entries kept in
    let own = view_at p.lists.items at found.0 c.remove-list.result found.1 c.remove-list.ensures.value in
    let macros : map numbered_body c.deref-in-Some.result.now ≡ found.0.macros =
    ap (map numbered_body) c.deref-in-Some.ensures.value ∙ ap (λ (r : RegisteredList). r.macros) (sym own) in
    rw (c.remove-list.ensures.items, left p.names p.lists.items at c.args.list_id c.self.invariant.ascending found)
    (left_whole p.entries.items _ p.macros c.remove_macros.new.macros (name_table_view p) at c.args.list_id c.self.invariant found
    (omega (arith, ap length items, kept, p.entries.ok.0))
    (rw (← macros, items, ← c.deref_mut.ensures.value) c.remove_list.ensures) (rw (← c.deref-in-Some-2.ensures.value) c.remove_macros.ensures))

pub returns-in_default-clause-removed : goal.returns-in_default-clause-removed
returns-in_default-clause-removed c =
    let lack = subst (λ ls. Lack c.args.list_id (registered_views ls)) c.deref.ensures.value (rw c.in_default.is at c.index_of.ensures) in
    rw (← c.self.view_is) (none_left (name_table_view c.self.inside) c.args.list_id lack)

pub returns-in-Some-clause-others : goal.returns-in-Some-clause-others
returns-in-Some-clause-others c = λ other entries apart h.
    subst (λ v. HoldsList v other entries) (sym (returns-in-Some-clause-removed c))
    (removed_keeps c.args.self.now c.args.list_id other entries apart h)

pub returns-in-Some-clause-sound : goal.returns-in-Some-clause-sound
returns-in-Some-clause-sound c = (invariant_of-self c).sound

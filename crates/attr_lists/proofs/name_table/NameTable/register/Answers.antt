use Rattle.std.proofs.Common.{◌≡◌, ◌∙◌, ℕ, [], ◌∷◌, ◌++◌, ap, arith, false, length, map, subst, sym}
use Rattle.std.specs.Vec.{with_items}
use Rattle.std.proofs.lemmas.List.{map-append, with_items_is}
use Rattle.attr_lists.specs.Definitions.{is_registered, macros_defined, with_list, IsSoundCollection}
use Rattle.attr_lists.specs.ListViews.{entries_view}
use Rattle.attr_lists.specs.Numbers.{names_in, numbered_lines, with_names}
use Rattle.attr_lists.specs.declared.name_table.NameTable.TheInside.{Inside}
use Rattle.attr_lists.specs.declared.name_table.registered.ListMacros.{ListMacros}
use Rattle.attr_lists.specs.inner.EntryViews.{definitions_at, AreEntries}
use Rattle.attr_lists.specs.inner.NameTableView.{name_table_view}
use Rattle.attr_lists.specs.inner.Registered.{numbered_body, registered_view, registered_views}
use Rattle.attr_lists.proofs.FreshNames.{known_lines, lines_held, stay_registered}
use Rattle.attr_lists.proofs.NameTableSteps.{above_fresh, added_whole, taken_back}
use Rattle.attr_lists.proofs.name_table.NameTable.register.Goals.{After-push_reserved}
use Rattle.attr_lists.proofs.name_table.NameTable.register.Goals as goal

-- what the table is then
abbrev after : (c : After-push_reserved) → Inside
after c = record {
  names = c.self.inside.names;
  entries = with_items c.self.inside.entries c.define_list.new.entries;
  lists = c.push_reserved.new.self;
  macros = c.insert_macros.new.macros;
}

-- the list's macros, which are those of its lines with the numbers that these have
macros_are : (c : After-push_reserved) →
    (with_names c.self.inside.names (names_in (entries_view c.args.mappings.now)) ≡ c.self.inside.names)
    × (map numbered_body c.in_ok-macros.macros.items
    ≡ macros_defined (numbered_lines (with_names c.self.inside.names (names_in (entries_view c.args.mappings.now)))
    (entries_view c.args.mappings.now)))
macros_are c =
    let entries = entries_view c.args.mappings.now in
    let known = known_lines c.self.inside.names entries c.self.invariant.sound.distinct (rw (← c.self.view_is) at c.requires.numbered) in
    (known.0, c.in_ok-macros.ensures ∙ sym (ap (λ names. macros_defined (numbered_lines names entries)) known.0 ∙ ap macros_defined known.1))

added : (c : After-push_reserved) →
    name_table_view (after c) ≡ with_list c.in-Some.list_id (entries_view c.args.mappings.now) (name_table_view c.self.inside)
added c =
    let p = c.self.inside in
    let macros = macros_are c in
    let own : ListMacros = record { list_id = c.in-Some.list_id; macros = c.in_ok-macros.macros } in
    let lists = ap registered_views (c.push_reserved.ensures.items ∙ ap (λ l. l ++ own ∷ []) c.reserve.ensures.items)
    ∙ map-append registered_view p.lists.items (own ∷ [])
    ∙ ap (λ ms. registered_views p.lists.items ++ record { list_id = c.in-Some.list_id; macros = ms } ∷ []) macros.1 in
    λ j. record { names = sym macros.0 j; lists = lists j }

pub invariant_of-self-2 : goal.invariant_of-self-2
invariant_of-self-2 c =
    let p = c.self.inside in
    let macros = macros_are c in
    let kept : length c.define_list.new.entries ≡ p.entries.len =
    omega (arith, c.define_list.auto.entries, ap length c.deref_mut.ensures.value, p.entries.ok.0) in
    let items = with_items_is p.entries c.define_list.new.entries kept in
    let before : (n : ℕ) → definitions_at c.deref_mut.result.now n ≡ definitions_at p.entries.items n =
    λ n. ap (λ l. definitions_at l n) c.deref_mut.ensures.value in
    rw (added c)
    (added_whole p.entries.items (after c).entries.items p.macros c.insert_macros.new.macros (name_table_view p) c.in-Some.list_id
    (entries_view c.args.mappings.now) c.self.invariant (rw c.deref.ensures.value at c.in-Some.ensures)
    (rw macros.0 c.self.invariant.sound.valid)
    (omega (arith, ap length items, kept, p.entries.ok.0, c.self.invariant.counted, ap length macros.0))
    (rw items (c.define_list.ensures.entries (subst AreEntries (sym c.deref_mut.ensures.value) c.self.invariant.entries)))
    (λ n lt. grind (arith, macros.1))
    c.insert_macros.ensures.kept (rw (← macros.1, ← c.deref-2.ensures.value) c.in_ok-insert_macros.ensures.listed))

pub returns-clause-registered : goal.returns-clause-registered
returns-clause-registered c = record {
  fresh = subst (λ known. is_registered known c.in-Some.list_id ≡ false) c.self.view_is
      (above_fresh c.in-Some.list_id (name_table_view c.self.inside) (rw c.deref.ensures.value at c.in-Some.ensures));
  added = added c ∙ ap (with_list c.in-Some.list_id (entries_view c.args.mappings.now)) c.self.view_is;
}

pub returns-clause-holds : goal.returns-clause-holds
returns-clause-holds c =
    lines_held c.in-Some.list_id (entries_view c.args.mappings.now) c.args.self.now (name_table_view (after c))
    (subst IsSoundCollection c.self.view_is c.self.invariant.sound) c.requires.numbered (returns-clause-registered c)

pub returns-clause-others : goal.returns-clause-others
returns-clause-others c =
    stay_registered c.in-Some.list_id (entries_view c.args.mappings.now) c.args.self.now (name_table_view (after c))
    (subst IsSoundCollection c.self.view_is c.self.invariant.sound) (returns-clause-registered c)

pub returns-clause-sound : goal.returns-clause-sound
returns-clause-sound c = (invariant_of-self-2 c).sound

-- the definitions are taken back
pub invariant_of-self-then-is_err : goal.invariant_of-self-then-is_err
invariant_of-self-then-is_err c =
    let p = c.self.inside in
    let seen = c.deref_mut.ensures.value in
    let again = c.deref_mut-then-is_err.ensures.value in
    let kept : length c.define_list.new.entries ≡ p.entries.len = omega (arith, c.define_list.auto.entries, ap length seen, p.entries.ok.0) in
    let items = with_items_is p.entries c.define_list.new.entries kept in
    let kept' : length c.take_back.new.entries ≡ p.entries.len = omega (arith, c.take_back.auto.entries, ap length again, ap length items, kept) in
    rw (c.reserve.ensures.items, with_items_is (with_items p.entries c.define_list.new.entries) c.take_back.new.entries kept')
    (taken_back p.entries.items c.deref_mut-then-is_err.result.now c.take_back.new.entries p.macros c.insert_macros.new.macros (name_table_view p)
    c.in-Some.list_id c.self.invariant (rw c.deref.ensures.value at c.in-Some.ensures)
    (omega (arith, ap length again, ap length items, kept, p.entries.ok.0)) (rw (again, items, ← seen) c.define_list.ensures.others)
    c.take_back.ensures.definitions
    (c.take_back.ensures.entries (rw (again, items) (c.define_list.ensures.entries (subst AreEntries (sym seen) c.self.invariant.entries))))
    c.insert_macros.ensures.kept)

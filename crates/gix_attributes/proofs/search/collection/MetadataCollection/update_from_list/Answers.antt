use Rattle.std.proofs.Common.{◌≡◌, ◌∙◌, ℕ, List, ap, arith, length, refl, subst, sym}
use Rattle.std.proofs.lemmas.Bool.Decides.{nat_tests}
use Rattle.std.proofs.lemmas.List.{with_items_is}
use Rattle.attr_lists.specs.Collections.{Collection}
use Rattle.attr_lists.specs.Definitions.{IsSoundCollection, RegistersAs}
use Rattle.attr_lists.specs.ListViews.{Entry, entries_view}
use Rattle.attr_lists.specs.Numbers.{names_in, numbered_lines, with_names}
use Rattle.attr_lists.specs.shared.Reading.{NumbersLines, with_first}
use Rattle.attr_lists.proofs.ForCallers.{copied_lines, lines_numbered_by, names_back, registers_numbered, stay_registered, with_names-extends}
use Rattle.gix_attributes.proofs.KeepingLemmas.{registers_more, stay_held}
use Rattle.gix_attributes.proofs.search.collection.MetadataCollection.update_from_list.Goals as goal

pub number-requires : goal.number-requires
number-requires c = grind (arith, nat_tests, copied_lines, c.deref_mut.ensures.value, c.in_ok-numbered.ensures.patterns, c.requires)

-- lines that were numbered and registered by these steps, in the words of the caller
module _ (entries seen lines own : List Entry) (before known mid : Collection) (same : known ≡ before) (seen_is : seen ≡ entries)
    (own_is : own ≡ lines) (numbered : NumbersLines seen known.names mid.names lines) (lists : mid.lists ≡ known.lists) where
  are_numbered : NumbersLines entries before.names mid.names own
  are_numbered = record {
    names = numbered.names ∙ (λ j. with_names ((same j).names) (names_in (seen_is j)));
    lines = own_is ∙ numbered.lines ∙ ap (numbered_lines mid.names) seen_is;
  }

  same_lists : mid.lists ≡ before.lists
  same_lists = lists ∙ ap (λ (c : Collection). c.lists) same

  -- without the new names nothing has changed
  back : (now : Collection) (count : ℕ) → count ≡ length before.names → now ≡ mid → with_first count now ≡ before
  back now count is now_is = ap (with_first count) now_is ∙ names_back entries own before mid count is are_numbered same_lists

  registers : (list_id : ℕ) (after : Collection) → IsSoundCollection before → IsSoundCollection mid → RegistersAs list_id own mid after
      → RegistersAs list_id entries before after × NumbersLines entries before.names after.names own
  registers list_id after sound later h = registers_numbered list_id entries own before mid after sound later are_numbered same_lists h

pub register-requires : goal.register-requires
register-requires c =
    let list = c.in_ok-numbered.numbered.patterns in
    let kept : length c.number.new.mappings ≡ list.len =
    omega (arith, c.number.auto.mappings, c.deref_mut.ensures.len, ap length c.deref_mut.ensures.value) in
    record {
      numbered = lines_numbered_by _ _ _ _ (are_numbered _ _ _ _ _ _ _ c.self.view_is
          (ap entries_view c.deref_mut.ensures.value ∙ copied_lines c.args.list.now.patterns.items list.items c.in_ok-numbered.ensures.patterns)
          (ap entries_view (c.deref.ensures.value ∙ with_items_is list c.number.new.mappings kept))
          c.in_ok-number.ensures.numbered c.number.ensures.names.lists);
    }

pub take_back-requires : goal.take_back-requires
take_back-requires c =
    subst IsSoundCollection (sym (back _ _ _ _ _ _ _ c.self.view_is
    (ap entries_view c.deref_mut.ensures.value
    ∙ copied_lines c.args.list.now.patterns.items c.in_ok-numbered.numbered.patterns.items c.in_ok-numbered.ensures.patterns)
    refl c.in_ok-number.ensures.numbered c.number.ensures.names.lists c.register.new.self c.len-count.result c.len-count.ensures.count
    c.in-Err.ensures.err)) c.len-count.ensures.sound

pub invariant_of-self-in-Err : goal.invariant_of-self-in-Err
invariant_of-self-in-Err c =
    subst IsSoundCollection (sym (c.take_back.ensures ∙ back _ _ _ _ _ _ _ c.self.view_is
    (ap entries_view c.deref_mut.ensures.value
    ∙ copied_lines c.args.list.now.patterns.items c.in_ok-numbered.numbered.patterns.items c.in_ok-numbered.ensures.patterns)
    refl c.in_ok-number.ensures.numbered c.number.ensures.names.lists c.register.new.self c.len-count.result c.len-count.ensures.count
    c.in-Err.ensures.err)) c.len-count.ensures.sound

pub returns-in-Err-clause-refused : goal.returns-in-Err-clause-refused
returns-in-Err-clause-refused c =
    c.take_back.ensures ∙ back _ _ _ _ _ _ _ c.self.view_is
    (ap entries_view c.deref_mut.ensures.value
    ∙ copied_lines c.args.list.now.patterns.items c.in_ok-numbered.numbered.patterns.items c.in_ok-numbered.ensures.patterns)
    refl c.in_ok-number.ensures.numbered c.number.ensures.names.lists c.register.new.self c.len-count.result c.len-count.ensures.count
    c.in-Err.ensures.err

pub returns-in-Err-clause-sound : goal.returns-in-Err-clause-sound
returns-in-Err-clause-sound c = subst IsSoundCollection (sym (returns-in-Err-clause-refused c)) c.len-count.ensures.sound

pub returns-clause-numbered : goal.returns-clause-numbered
returns-clause-numbered c =
    let list = c.in_ok-numbered.numbered.patterns in
    let kept : length c.number.new.mappings ≡ list.len =
    omega (arith, c.number.auto.mappings, c.deref_mut.ensures.len, ap length c.deref_mut.ensures.value) in
    ap (λ v. entries_view v.items) c.swap.ensures.x_after ∙ ap entries_view (sym c.deref.ensures.value)
    ∙ (registers _ _ _ _ _ _ _ c.self.view_is
    (ap entries_view c.deref_mut.ensures.value ∙ copied_lines c.args.list.now.patterns.items list.items c.in_ok-numbered.ensures.patterns)
    (ap entries_view (c.deref.ensures.value ∙ with_items_is list c.number.new.mappings kept))
    c.in_ok-number.ensures.numbered c.number.ensures.names.lists c.in_default.field-0 c.register.new.self c.len-count.ensures.sound
    c.number.ensures.names.sound c.in_default.ensures.registered).1.lines

pub returns-clause-registered : goal.returns-clause-registered
returns-clause-registered c =
    let list = c.in_ok-numbered.numbered.patterns in
    let entries = entries_view c.args.list.now.patterns.items in
    let kept : length c.number.new.mappings ≡ list.len =
    omega (arith, c.number.auto.mappings, c.deref_mut.ensures.len, ap length c.deref_mut.ensures.value) in
    let registered = (registers _ _ _ _ _ _ _ c.self.view_is
    (ap entries_view c.deref_mut.ensures.value ∙ copied_lines c.args.list.now.patterns.items list.items c.in_ok-numbered.ensures.patterns)
    (ap entries_view (c.deref.ensures.value ∙ with_items_is list c.number.new.mappings kept))
    c.in_ok-number.ensures.numbered c.number.ensures.names.lists c.in_default.field-0 c.register.new.self c.len-count.ensures.sound
    c.number.ensures.names.sound c.in_default.ensures.registered).0 in (
      c.in_default.field-0,
      registered,
      registers_more c.args.self.now c.register.new.self c.in_default.field-0 entries registered _ (returns-clause-numbered c)
          c.register.ensures.sound,
    )

pub returns-clause-held : goal.returns-clause-held
returns-clause-held c =
    let registered = returns-clause-registered c in
    stay_held c.args.self.now c.register.new.self (stay_registered registered.0 (entries_view c.args.list.now.patterns.items) c.args.self.now
    c.register.new.self c.len-count.ensures.sound registered.1)

pub returns-clause-named : goal.returns-clause-named
returns-clause-named c =
    let numbered = lines_numbered_by (entries_view c.args.list.now.patterns.items) c.args.self.now.names c.register.new.self.names _ (record {
      names = ap (λ (known : Collection). known.names) (returns-clause-registered c).1.added;
      lines = returns-clause-numbered c;
    }) in
    λ k d lt. (numbered k d lt).items

pub returns-clause-names : goal.returns-clause-names
returns-clause-names c =
    let more = with_names-extends c.args.self.now.names (names_in (entries_view c.args.list.now.patterns.items)) in
    (more.0, ap (λ (known : Collection). known.names) (returns-clause-registered c).1.added ∙ more.1)

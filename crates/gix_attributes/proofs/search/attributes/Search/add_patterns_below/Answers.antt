use Rattle.std.proofs.Common.{◌≡◌, arith, List, ◌∙◌, sym, ap, subst, ◌++◌, ◌∷◌, [], option_map}
use Rattle.std.specs.Prelude.{string_bytes}
use Rattle.std.proofs.lemmas.List.{map-append}
use Rattle.std.proofs.lemmas.Bool.Decides.{nat_tests}
use Rattle.std.specs.Cmp.{nat_eq_equiv}
use Rattle.attr_glob.specs.Views.{base_bytes}
use Rattle.attr_lists.specs.Collections.{Collection}
use Rattle.attr_lists.specs.Definitions.{HoldsList, IsSoundCollection, RegistersAs}
use Rattle.attr_lists.specs.KeptLists.{kept_list_where}
use Rattle.attr_lists.specs.ListViews.{Entry, entries_view}
use Rattle.attr_lists.specs.Numbers.{numbered_lines}
use Rattle.attr_lists.specs.shared.Keeping.{StayRegistered}
use Rattle.attr_lists.proofs.ForCallers.{lines_numbered_by, names_back, registers_numbered, stay_registered}
use Rattle.attr_search.specs.declared.indexed_list.IndexedList.{IndexedList}
use Rattle.attr_search.specs.shared.ReadLines.{AreRead}
use Rattle.attr_search.proofs.ForCallers.{numbered_read, on_err}
use Rattle.attr_search.specs.IndexedLists.{list_ids_of, listed_view, lists_view}
use Rattle.gix_attributes.specs.inner.HeldLists.{AreHeldLists}
use Rattle.gix_attributes.proofs.HoldsLemmas.{held_more, held_lists, held_views}
use Rattle.gix_attributes.proofs.KeepingLemmas.{adds_added, keeps_added}
use Rattle.gix_attributes.proofs.ReadLemmas.{kept_list_where-read}
use Rattle.gix_attributes.proofs.search.attributes.Search.add_patterns_below.Goals as goal
use Rattle.gix_attributes.proofs.search.attributes.Search.add_patterns_below.Goals.{After-push_reserved}

pub register-requires : goal.register-requires
register-requires c =
    let kept = kept_list_where c.args.list.allow_macros c.args.list.buffer.now in
    let ensured = c.in_ok-patterns.ensures in
    record {
      numbered = lines_numbered_by kept c.args.collection.now.names c.read_lines.new.self.names
          (entries_view c.in_ok-patterns.patterns.items) ensured.read.numbered;
      read = subst AreRead (sym ensured.read.numbered.lines)
          (numbered_read c.read_lines.new.self.names kept (kept_list_where-read c.args.list.allow_macros c.args.list.buffer.now));
      first = subst IsSoundCollection (sym (names_back kept (entries_view c.in_ok-patterns.patterns.items) c.args.collection.now
          c.read_lines.new.self c.len-count.result c.len-count.ensures.count ensured.read.numbered ensured.names.lists)) c.len-count.ensures.sound;
    }

pub returns-in_err-indexed-clause-unchanged : goal.returns-in_err-indexed-clause-unchanged
returns-in_err-indexed-clause-unchanged c =
    let same : c.register.new.self ≡ c.args.collection.now =
    c.in_err-indexed.ensures.refused
    ∙ names_back (kept_list_where c.args.list.allow_macros c.args.list.buffer.now) (entries_view c.in_ok-patterns.patterns.items)
    c.args.collection.now c.read_lines.new.self c.len-count.result c.len-count.ensures.count
    c.in_ok-patterns.ensures.read.numbered c.in_ok-patterns.ensures.names.lists in
    on_err c.from_residual-in_err-indexed.result same

pub returns-in_err-indexed-clause-held : goal.returns-in_err-indexed-clause-held
returns-in_err-indexed-clause-held c held =
    let same : c.register.new.self ≡ c.args.collection.now =
    c.in_err-indexed.ensures.refused
    ∙ names_back (kept_list_where c.args.list.allow_macros c.args.list.buffer.now) (entries_view c.in_ok-patterns.patterns.items)
    c.args.collection.now c.read_lines.new.self c.len-count.result c.len-count.ensures.count
    c.in_ok-patterns.ensures.read.numbered c.in_ok-patterns.ensures.names.lists in
    rw (same, c.in_ok-reserve.ensures.lists) held

-- what the lines of the buffer are in the collection as it was passed
record IsAdded (before after : Collection) (entries : List Entry) (indexed : IndexedList) : Type 0 where
  registered : RegistersAs indexed.list_id entries before after
  lines : entries_view indexed.list.patterns.items ≡ numbered_lines after.names entries
  holds : HoldsList after indexed.list_id (entries_view indexed.list.patterns.items)
  others : StayRegistered before after

is_added : (c : After-push_reserved) → IsAdded c.args.collection.now c.register.new.self
    (kept_list_where c.args.list.allow_macros c.args.list.buffer.now) c.in_ok-indexed.indexed
is_added c =
    let own = c.in_ok-indexed.ensures.registered in
    let list_id = c.in_ok-indexed.indexed.list_id in
    let kept = kept_list_where c.args.list.allow_macros c.args.list.buffer.now in
    let ensured = c.in_ok-patterns.ensures in
    let facts = registers_numbered list_id kept (entries_view c.in_ok-patterns.patterns.items) c.args.collection.now c.read_lines.new.self
    c.register.new.self ensured.sound ensured.names.sound ensured.read.numbered ensured.names.lists own.registered in
    record {
      registered = facts.0;
      lines = ap (λ l. entries_view l.patterns.items) own.same ∙ facts.1.lines;
      holds = subst (λ l. HoldsList c.register.new.self c.in_ok-indexed.indexed.list_id (entries_view l.patterns.items)) (sym own.same) own.holds;
      others = stay_registered list_id kept c.args.collection.now c.register.new.self ensured.sound facts.0;
    }

pub returns-clause-list : goal.returns-clause-list
returns-clause-list c =
    let before = c.args.self.now.patterns.lists.items in
    let added = is_added c in
    let pushed = c.push_reserved.ensures ∙ ap (λ xs. xs ++ c.in_ok-indexed.indexed ∷ []) c.in_ok-reserve.ensures.lists in
    let own = c.in_ok-indexed.ensures.registered.same in
    ap lists_view pushed ∙ map-append listed_view before (c.in_ok-indexed.indexed ∷ [])
    ∙ (λ j. lists_view before ++ record {
      source = option_map string_bytes ((own j).source);
      base = base_bytes ((own j).base);
      lines = added.lines j;
    } ∷ [])

pub returns-clause-registered : goal.returns-clause-registered
returns-clause-registered c =
    let before = c.args.self.now.patterns.lists.items in
    let pushed = c.push_reserved.ensures ∙ ap (λ xs. xs ++ c.in_ok-indexed.indexed ∷ []) c.in_ok-reserve.ensures.lists in
    (record {
      list_id = c.in_ok-indexed.indexed.list_id;
      registered = (is_added c).registered;
      noted = ap list_ids_of pushed ∙ map-append (λ (x : IndexedList). x.list_id) before (c.in_ok-indexed.indexed ∷ []);
    })

pub returns-clause-held : goal.returns-clause-held
returns-clause-held c held =
    let added = is_added c in
    let pushed = c.push_reserved.ensures ∙ ap (λ xs. xs ++ c.in_ok-indexed.indexed ∷ []) c.in_ok-reserve.ensures.lists in
    held_views c.register.new.self c.push_reserved.new.self.lists.items (subst (AreHeldLists c.register.new.self) (sym pushed)
    (held_more c.args.collection.now c.register.new.self _ c.in_ok-indexed.indexed nat_eq_equiv added.others added.holds
    added.registered.fresh (held_lists c.args.collection.now c.args.self.now.patterns.lists.items held)))

pub returns-clause-kept : goal.returns-clause-kept
returns-clause-kept c =
    let added = is_added c in
    let pushed = c.push_reserved.ensures ∙ ap (λ xs. xs ++ c.in_ok-indexed.indexed ∷ []) c.in_ok-reserve.ensures.lists in
    keeps_added c.args.collection.now c.register.new.self _ c.args.self.now.patterns.lists.items c.push_reserved.new.self.lists.items
    c.in_ok-indexed.indexed added.registered pushed added.lines added.others

pub returns-clause-added : goal.returns-clause-added
returns-clause-added c = let added = is_added c in grind (arith, nat_tests, added, adds_added, c.push_reserved.ensures, c.in_ok-reserve.ensures.lists)

use Rattle.std.proofs.Common.{◌∙◌, sym, subst, ap, true≢false}
use Rattle.std.specs.Prelude.{option_map, string_bytes}
use Rattle.std.specs.List.{list_all}
use Rattle.attr_glob.specs.Indexed.{indexed_lines}
use Rattle.attr_lists.specs.Definitions.{HoldsList, RegistersAs}
use Rattle.attr_lists.specs.ListViews.{entries_view}
use Rattle.attr_search.specs.inner.DirectoryKeys.{keys_of}
use Rattle.attr_search.specs.inner.Lines.{gives_nothing}
use Rattle.attr_search.proofs.indexed_list.IndexedList.register.Goals.{then-is_idle, else-is_idle}
use Rattle.attr_search.proofs.indexed_list.IndexedList.register.Goals as goal

pub invariant_of-result-clause-read : goal.invariant_of-result-clause-read
invariant_of-result-clause-read c = ∣ c.requires.read ∣₁

pub invariant_of-result-clause-idle : goal.invariant_of-result-clause-idle
invariant_of-result-clause-idle c =
    c.all_give_nothing-is_idle.ensures ∙ ap (λ mappings. list_all gives_nothing (entries_view mappings)) c.deref.ensures.value

pub invariant_of-result-clause-based : goal.invariant_of-result-clause-based
invariant_of-result-clause-based c = λ busy.
    elim c.if-is_idle.branch [
      | then-is_idle w ↦ absurd (true≢false (sym w.if-is_idle.true ∙ busy))
      | else-is_idle w ↦ w.base_keys-is ∙ c.in_ok-keys_of_base.ensures ∙ ap keys_of c.base_directory.ensures
    ]

pub invariant_of-result-clause-lines : goal.invariant_of-result-clause-lines
invariant_of-result-clause-lines c = ap (λ index. indexed_lines index.lines.items) c.in_ok-index.ensures.ok ∙ c.in_ok-index_of.ensures.lines

pub invariant_of-result-clause-source : goal.invariant_of-result-clause-source
invariant_of-result-clause-source c = λ busy.
    ap (λ index. option_map string_bytes index.source) c.in_ok-index.ensures.ok ∙ c.in_ok-index_of.ensures.source busy

pub returns-clause-registered : goal.returns-clause-registered
returns-clause-registered c =
    subst (λ mappings. RegistersAs c.in_ok-list_id.list_id (entries_view mappings) c.args.names.now c.register.new.self) c.deref-2.ensures.value
    c.in_ok-list_id.ensures.registered

pub returns-clause-holds : goal.returns-clause-holds
returns-clause-holds c =
    subst (λ mappings. HoldsList c.register.new.self c.in_ok-list_id.list_id (entries_view mappings)) c.deref-2.ensures.value
    c.in_ok-list_id.ensures.holds

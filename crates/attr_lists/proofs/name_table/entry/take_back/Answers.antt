use Rattle.std.proofs.Common.{get_or, refl, rules}
use Rattle.std.proofs.lemmas.Fn.{filter_same}
use Rattle.attr_lists.specs.Definitions.{of_other_lists}
use Rattle.attr_lists.specs.inner.EntryViews.{definitions_view}
use Rattle.attr_lists.proofs.EntryLemmas.{removed_from, AreEntries-set-element}
use Rattle.attr_lists.proofs.ListLemmas.{front-step}
use Rattle.attr_lists.proofs.name_table.entry.take_back.Goals as goal

pub loop-entry-preserved : goal.loop-entry-preserved
loop-entry-preserved c =
    let entries = c.loop-entry.entries in
    let i = c.loop-entry.entry-index in
    let d = c.entry-item.result in
    let old = get_or entries i d in
    let removed = removed_from c.args.list_id old (record { undefined = old.undefined; definitions = c.retain.new.self }) refl
    (filter_same _ _ _ (λ x b f' k. search rules) _ _ c.retain.ensures.filtered) in
    record {
      definitions = front-step definitions_view (of_other_lists c.args.list_id) c.args.entries.now entries i d _
          c.loop-entry-test.true c.loop-entry.invariant.definitions removed.definitions;
      entries = λ all. AreEntries-set-element entries i d _ c.loop-entry.auto.entries c.loop-entry-test.true (removed.entry i)
          (c.loop-entry.invariant.entries all);
    }

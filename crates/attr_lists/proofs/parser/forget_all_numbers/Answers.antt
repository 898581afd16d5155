use Rattle.attr_lists.specs.ListViews.{entry_view}
use Rattle.attr_lists.specs.inner.LineSteps.{forgotten}
use Rattle.attr_lists.proofs.ListLemmas.{front-step}
use Rattle.attr_lists.proofs.parser.forget_all_numbers.Goals as goal

pub loop-mapping-preserved : goal.loop-mapping-preserved
loop-mapping-preserved c =
    front-step entry_view forgotten c.args.mappings.now c.loop-mapping.mappings c.loop-mapping.mapping-index c.mapping-item.result
    c.forget_numbers.new.mapping c.loop-mapping-test.true c.loop-mapping.invariant c.forget_numbers.ensures

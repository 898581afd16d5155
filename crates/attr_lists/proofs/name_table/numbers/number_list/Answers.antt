use Rattle.std.proofs.Common.{arith, get_or}
use Rattle.attr_lists.specs.ListViews.{entry_view}
use Rattle.attr_lists.specs.Numbers.{names_of}
use Rattle.attr_lists.proofs.NameLemmas.{inserted_after}
use Rattle.attr_lists.proofs.NumberLemmas.{line_step, unnumbered_valid}
use Rattle.attr_lists.proofs.name_table.numbers.number_list.Goals as goal

pub number_line-requires : goal.number_line-requires
number_line-requires c = grind (arith, unnumbered_valid)

pub loop-mapping-preserved : goal.loop-mapping-preserved
loop-mapping-preserved c =
    let start = c.loop-mapping.mappings in
    let inserted = c.in_ok-number_line.ensures.inserted.ok in
    let step = line_step c.args.names.now c.args.mappings.now c.loop-mapping.names c.number_line.new.names start c.loop-mapping.mapping-index
    c.mapping-item.result c.number_line.new.mapping c.loop-mapping-test.true c.loop-mapping.invariant.numbered inserted
    c.in_ok-number_line.ensures.numbered c.loop-mapping.invariant.inserted in
    record {
      inserted = step.0;
      numbered = step.1;
      extends = inserted_after c.args.names.now c.loop-mapping.names c.number_line.new.names
          (names_of (entry_view (get_or start c.loop-mapping.mapping-index c.mapping-item.result))) c.loop-mapping.invariant.extends inserted;
    }

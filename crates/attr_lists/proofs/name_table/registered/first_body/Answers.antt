use Rattle.std.proofs.Common.{arith, ◌+◌}
use Rattle.std.proofs.lemmas.List.{take_rest}
use Rattle.attr_lists.specs.ListViews.{entry_view}
use Rattle.attr_lists.proofs.RegisteredLemmas.{line_body, line_none, line_other, lines_from}
use Rattle.attr_lists.proofs.name_table.registered.first_body.Goals as goal
use Rattle.attr_lists.proofs.name_table.registered.first_body.Goals.{in_default-via-in-None-1, in_default-via-in-Some+else-eq}

pub returns-in-loop-index : goal.returns-in-loop-index
returns-in-loop-index c =
    let from = lines_from c.args.mappings.now c.loop-index.index c.index-mappings-index.result c.args.name.now c.loop-index-test.true
    c.index-mappings-index.is in
    let own = line_body (entry_view c.index-mappings-index.result) c.in-Some.own.now c.args.name.now c.in-Some.body.now c.in-Some.ensures in
    grind (arith, from, own, take_rest c.args.mappings.now (c.loop-index.index + 1))

pub loop-index-preserved : goal.loop-index-preserved
loop-index-preserved c =
    let from = lines_from c.args.mappings.now c.loop-index.index c.index-mappings-index.result c.args.name.now c.loop-index-test.true
    c.index-mappings-index.is in
    let line = entry_view c.index-mappings-index.result in
    elim c.in_default.branch [
      | in_default-via-in-None-1 w ↦ grind (arith, from, line_none line c.args.name.now)
      | in_default-via-in-Some+else-eq w ↦
          grind (arith, from, line_other line w.in-Some.own.now c.args.name.now w.in-Some.body.now w.in-Some.ensures)
    ]

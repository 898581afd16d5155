use Rattle.std.proofs.Common.{arith, ◌≡◌, true, map}
use Rattle.attr_lists.specs.ListViews.{entry_view}
use Rattle.attr_lists.specs.inner.NameSteps.{has_name_at}
use Rattle.attr_lists.specs.inner.Registered.{numbered_body}
use Rattle.attr_lists.proofs.RegisteredLemmas.{line_none, lines_from, more_line}
use Rattle.attr_lists.proofs.name_table.registered.are_lines_of.Goals as goal
use Rattle.attr_lists.proofs.name_table.registered.are_lines_of.Goals.{in-Some+in-Some-split_first+else-not-has_number+else-not-is_same, in_default}

pub loop-mapping-preserved : goal.loop-mapping-preserved
loop-mapping-preserved c = λ name h.
    let line = entry_view c.mapping-item.result in
    let from = lines_from c.args.mappings.now c.loop-mapping.mapping-index c.mapping-item.result name c.loop-mapping-test.true c.mapping-item.is in
    c.loop-mapping.invariant name (elim c.match-macro_of.branch [
      | in-Some+in-Some-split_first+else-not-has_number+else-not-is_same w ↦
          let known = numbered_body w.in-Some-split_first.known.now in
          let named : has_name_at c.args.names.now w.in-Some.name.now known.number ≡ true = grind arith in
          let same : known.body ≡ w.in-Some.body.now = grind arith in
          grind (
            arith,
            from,
            more_line c.args.names.now line w.in-Some.name.now w.in-Some.body.now known
                (map numbered_body w.in-Some-split_first.others.now) w.in-Some.ensures named same name,
          )
      | in_default w ↦ grind (arith, line_none line name, from)
    ])

use Rattle.std.proofs.lemmas.Bool.Decides.{nat_tests}
use Rattle.std.proofs.Common.{◌∙◌, false, true, subst, sym, arith, rules}
use Rattle.std.proofs.lemmas.List.Sorted.{IsPartitionPoint-from_clause}
use Rattle.attr_keys.specs.inner.Cases.{keys_seen, seen_text}
use Rattle.attr_keys.specs.shared.Codes.{codes_of, row_codes}
use Rattle.attr_keys.specs.shared.Rows.{is_up_to}
use Rattle.std.proofs.lemmas.Bool.{cases_lt}
use Rattle.attr_keys.proofs.Links.{IsAppended, appended_lesser, appended_more, appended_none, none_dropped, up_to_first}
use Rattle.attr_keys.proofs.prefixes.append_linked.Goals as goal
use Rattle.attr_keys.proofs.RowLemmas.{or_none}

pub loop-end-init : goal.loop-end-init
loop-end-init g c =
    let keys = keys_seen g.K.Keyed.content c.args.keys in
    let rows = c.args.rows.now in
    let text = codes_of false (seen_text c.args.keys.view c.args.text.now) true in
    let end = c.partition_point-end.result in
    let point = IsPartitionPoint-from_clause (λ row. is_up_to text (row_codes keys row)) rows end c.partition_point-end.ensures.partitioned
    (up_to_first keys rows text c.requires.order) (λ a r q k. search rules) in
    grind (arith, nat_tests, none_dropped, or_none, c.partition_point-end.ensures.bound)

pub loop-end-preserved : goal.loop-end-preserved
loop-end-preserved g c =
    appended_none (keys_seen g.K.Keyed.content c.args.keys) c.args.rows.now c.args.links.now
    (codes_of false (seen_text c.args.keys.view c.args.text.now) true) c.args.found.now.items c.loop-end.end c.loop-end.found.items
    c.requires c.loop-end-test.true c.loop-end.invariant (sym c.has_row_key.ensures ∙ c.if-has_row_key.false)

pub loop-end-preserved-then-end-gt0 : goal.loop-end-preserved-then-end-gt0
loop-end-preserved-then-end-gt0 g c =
    appended_lesser (keys_seen g.K.Keyed.content c.args.keys) c.args.rows.now c.args.links.now
    (codes_of false (seen_text c.args.keys.view c.args.text.now) true) c.args.found.now.items c.loop-end.end c.loop-end.found.items
    c.requires c.loop-end-test.true c.loop-end.invariant (sym c.has_row_key.ensures ∙ c.if-has_row_key.false)
    c.common_end.result c.min-end.result c.common_end.ensures (omega (arith, c.min-end.ensures)) (grind (arith, nat_tests, cases_lt))

pub loop-end-preserved-in-Continue-1 : goal.loop-end-preserved-in-Continue-1
loop-end-preserved-in-Continue-1 g c =
    subst (IsAppended (keys_seen g.K.Keyed.content c.args.keys) c.args.rows.now (codes_of false (seen_text c.args.keys.view c.args.text.now) true)
    c.args.found.now.items _) (sym c.in_ok-push.ensures.items)
    (appended_more (keys_seen g.K.Keyed.content c.args.keys) c.args.rows.now c.args.links.now
    (codes_of false (seen_text c.args.keys.view c.args.text.now) true) c.args.found.now.items c.loop-end.end c.loop-end.found.items
    c.requires c.loop-end-test.true c.loop-end.invariant (sym c.has_row_key.ensures ∙ c.if-has_row_key.true))

use Rattle.std.proofs.Common.{false, rules}
use Rattle.std.proofs.lemmas.List.Sorted.{IsPartitionPoint-from_clause}
use Rattle.attr_keys.specs.inner.Cases.{keys_seen, seen_text}
use Rattle.attr_keys.specs.shared.Codes.{codes_of, row_codes}
use Rattle.attr_keys.specs.shared.Rows.{is_up_to}
use Rattle.attr_keys.proofs.Links.{none_common, up_to_first}
use Rattle.attr_keys.proofs.prefixes.common_end.Goals as goal

pub returns : goal.returns
returns g c =
    let keys = keys_seen g.K.Keyed.content c.args.keys in
    let rows = c.args.rows.now in
    let view = c.args.keys.view in
    let common = seen_text view c.common-part.result.now in
    let point = IsPartitionPoint-from_clause (λ row. is_up_to (codes_of false common false) (row_codes keys row)) rows c.partition_point.result
    c.partition_point.ensures.partitioned
    (up_to_first keys rows (codes_of false common false) c.requires.order) (λ a r q k. search rules) in
    none_common keys rows (seen_text view c.args.text.now) common c.args.index c.partition_point.result c.requires.order c.requires.within
    c.requires.up_to c.common-part.ensures (λ k le lt. point.1 k 0 le lt)

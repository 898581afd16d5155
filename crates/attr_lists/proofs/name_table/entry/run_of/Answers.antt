use Rattle.std.proofs.Common.{ℕ, leb, ltb, rules}
use Rattle.std.proofs.lemmas.List.Sorted.{IsPartitionPoint-from_clause, IsPartitionedBy-leb, IsPartitionedBy-ltb}
use Rattle.attr_lists.specs.declared.name_table.entry.Definition.{Definition}
use Rattle.attr_lists.proofs.RunLemmas.{points_apart, run_removed}
use Rattle.attr_lists.proofs.name_table.entry.run_of.Goals as goal

abbrev of : Definition → ℕ
of d = d.list_id

pub returns : goal.returns
returns c =
    let ds = c.args.definitions.now in
    let start = c.partition_point-start.result in
    let end = c.partition_point-end.result in
    let below = IsPartitionPoint-from_clause (λ d. ltb (of d) c.args.list_id) ds start c.partition_point-start.ensures.partitioned
    (IsPartitionedBy-ltb of ds c.args.list_id c.requires) (λ a r q k. search rules) in
    let upto = IsPartitionPoint-from_clause (λ d. leb (of d) c.args.list_id) ds end c.partition_point-end.ensures.partitioned
    (IsPartitionedBy-leb of ds c.args.list_id c.requires) (λ a r q k. search rules) in
    let order = points_apart of ds c.args.list_id start end c.partition_point-start.ensures.bound below upto in
    record {
      order = order;
      end = c.partition_point-end.ensures.bound;
      others = run_removed of ds c.args.list_id start end order c.partition_point-end.ensures.bound below upto;
    }

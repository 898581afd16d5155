use Rattle.std.proofs.Common.{ℕ, ltb, leb, ◌-◌, take, drop, length, sym, subst, rules}
use Rattle.std.specs.List.Sorted.{IsNonDecreasingBy}
use Rattle.std.proofs.lemmas.List.Sorted.{IsPartitionPoint-from_clause, IsPartitionedBy-leb, IsPartitionedBy-ltb, IsNonDecreasingBy-drop}
use Rattle.gix_attributes.specs.declared.search.needed.BodyItem.{BodyItem}
use Rattle.gix_attributes.proofs.NeededLemmas.{all_between, part_within, rest_is, same_between}
use Rattle.gix_attributes.proofs.search.needed.items_of.Goals as goal

pub returns : goal.returns
returns c =
    let n : BodyItem → ℕ = λ i. i.attribute in
    let items = c.args.items.now in
    let start = c.partition_point-start.result in
    let len = c.partition_point-len.result in
    let rest = take (length items - start) (drop start items) in
    let is = rest_is items start in
    let first = IsPartitionPoint-from_clause (λ i. ltb (n i) c.args.attribute) items start c.partition_point-start.ensures.partitioned
    (IsPartitionedBy-ltb n items c.args.attribute c.requires) (λ a r q k. search rules) in
    let rising = subst (λ l. IsNonDecreasingBy n l) (sym is) (IsNonDecreasingBy-drop n start items c.requires) in
    let second = IsPartitionPoint-from_clause (λ i. leb (n i) c.args.attribute) rest len c.partition_point-len.ensures.partitioned
    (IsPartitionedBy-leb n rest c.args.attribute rising) (λ a r q k. search rules) in
    record {
      all = all_between items rest c.args.attribute start len is first second;
      within = part_within items rest start len is;
      same = same_between items rest c.args.attribute start len is c.partition_point-start.ensures.bound first second;
    }

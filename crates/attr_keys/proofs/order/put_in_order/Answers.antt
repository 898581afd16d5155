use Rattle.std.proofs.Common.{arith, rules}
use Rattle.std.proofs.lemmas.Bool.Decides.{nat_tests}
use Rattle.std.proofs.lemmas.List.Sorted.{list_any-IsPermutation}
use Rattle.std.proofs.lemmas.Result.{on_ok_weaker}
use Rattle.attr_keys.specs.inner.Cases.{keys_seen}
use Rattle.attr_keys.proofs.Ordering.{sorted_by_codes}
use Rattle.attr_keys.proofs.order.put_in_order.Goals as goal

pub returns-clause-rows : goal.returns-clause-rows
returns-clause-rows g c = grind (arith, nat_tests, list_any-IsPermutation, c.sort_by.ensures.permutation)

pub returns-clause-order : goal.returns-clause-order
returns-clause-order g c =
    on_ok_weaker c.sort_by.result
    (λ sorted. sorted_by_codes (keys_seen g.K.Keyed.content c.args.keys) c.sort_by.new.self.items sorted (λ a r q k. search rules))
    c.sort_by.ensures.sorted

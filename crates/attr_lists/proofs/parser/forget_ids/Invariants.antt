use Rattle.std.proofs.Common.{◌≡◌}
use Rattle.attr_lists.specs.KeptLists.{tracked}
use Rattle.attr_lists.proofs.ListLemmas.{front}
use Rattle.attr_lists.proofs.parser.forget_ids.Given as goal

abbrev pub invariant-loop-item : goal.invariant-loop-item
invariant-loop-item l = l.items ≡ front (λ item. tracked item.inner) l.item-index l.initial.items

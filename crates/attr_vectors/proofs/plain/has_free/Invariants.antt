use Rattle.std.proofs.Common.{◌≡◌, false, take, is_none}
use Rattle.std.specs.List.{list_any}
use Rattle.attr_vectors.specs.inner.Plain.{plain_answers}
use Rattle.attr_vectors.proofs.plain.has_free.Given as goal

abbrev pub invariant-loop-assignment : goal.invariant-loop-assignment
invariant-loop-assignment l = list_any (λ i. is_none (plain_answers l.slots i.attribute)) (take l.assignment-index l.items) ≡ false

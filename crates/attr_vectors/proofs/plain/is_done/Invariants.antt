use Rattle.std.proofs.Common.{◌≡◌, true, take}
use Rattle.attr_table.specs.Cut
use Rattle.attr_vectors.specs.inner.Plain.{plain_answers}
use Rattle.attr_vectors.proofs.plain.is_done.Given as goal

abbrev pub invariant-loop-attribute : goal.invariant-loop-attribute
invariant-loop-attribute l = Cut.is_done (take l.attribute-index l.wanted) (plain_answers l.slots) ≡ true

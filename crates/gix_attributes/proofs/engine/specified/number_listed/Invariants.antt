use Rattle.std.proofs.Common.{◌≡◌, None, filter, get_or, take}
use Rattle.gix_attributes.specs.inner.SoundEngines.{is_slot_specified}
use Rattle.gix_attributes.proofs.engine.specified.number_listed.Given as goal

abbrev pub invariant-loop-number : goal.invariant-loop-number
invariant-loop-number l =
    l.numbers.items ≡ filter (λ n. is_slot_specified (get_or l.outcome.slots n None)) (take l.number-index l.listed)

-- The numbers so far and what is left to be numbered are together all of it.
use Rattle.std.proofs.Common.{◌≡◌, ◌++◌, map, None, get_or}
use Rattle.gix_attributes.proofs.AnswerLemmas.{left_from}
use Rattle.gix_attributes.proofs.engine.specified.number_all.Given as goal

abbrev pub invariant-loop-number : goal.invariant-loop-number
invariant-loop-number l =
    let slots = l.outcome.slots in
    map (λ number. get_or slots number None) l.numbers.items ++ left_from slots l.number ≡ left_from slots 0

use Rattle.std.proofs.Common.{◌≡◌, drop}
use Rattle.std.specs.Cmp.Lexicographic.{slice_cmp}
use Rattle.std.specs.Ordering.{nat_cmp}
use Rattle.attr_keys.specs.inner.Cases.{seen_text}
use Rattle.attr_keys.proofs.key.seen_order.Given as goal

abbrev pub invariant-loop-offset : goal.invariant-loop-offset
invariant-loop-offset l = slice_cmp nat_cmp (seen_text l.view l.text) (seen_text l.view l.other)
    ≡ slice_cmp nat_cmp (drop l.offset (seen_text l.view l.text)) (drop l.offset (seen_text l.view l.other))

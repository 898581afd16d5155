use Rattle.std.proofs.Common.{◌≡◌, true, take}
use Rattle.attr_keys.specs.inner.Cases.{in_case}
use Rattle.attr_keys.proofs.kinds.has_capital.Given as goal

abbrev pub invariant-loop-byte : goal.invariant-loop-byte
invariant-loop-byte l = in_case true (take l.byte-index l.text) ≡ take l.byte-index l.text

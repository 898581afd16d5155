use Rattle.std.proofs.Common.{◌≡◌, ◌≤◌, ◌-◌, length, take}
use Rattle.attr_keys.specs.inner.Cases.{seen_text}
use Rattle.attr_keys.proofs.key.common_len.Given as goal

abbrev pub invariant-loop-len : goal.invariant-loop-len
invariant-loop-len l = record {
  text : l.len ≤ length l.text;
  part : l.len ≤ length l.part;
  same : take l.len (seen_text l.view l.text) ≡ take l.len (seen_text l.view l.part);
}

abbrev pub decreases-loop-len : goal.decreases-loop-len
decreases-loop-len l = length l.text - l.len

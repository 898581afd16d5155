-- No byte before what is left is a slash.
use Rattle.std.proofs.Common.{◌≡◌, false, length, take}
use Rattle.std.specs.List.{list_any}
use Rattle.attr_wildmatch.specs.Slashes.{is_slash}
use Rattle.attr_wildmatch.proofs.slashes.has_slash.Given as goal

abbrev pub invariant-loop-rest : goal.invariant-loop-rest
invariant-loop-rest l = list_any is_slash l.rest ≡ list_any is_slash l.text

abbrev pub decreases-loop-rest : goal.decreases-loop-rest
decreases-loop-rest l = length l.rest

abbrev pub invariant-loop-byte : goal.invariant-loop-byte
invariant-loop-byte l = list_any is_slash (take l.byte-index l.byte-items) ≡ false

-- No dot follows the offset.
use Rattle.std.proofs.Common.{◌≡◌, ◌≤◌, None, drop, length}
use Rattle.attr_keys.specs.inner.Extensions.{extension}
use Rattle.attr_keys.proofs.hashed.extension.Given as goal

abbrev pub invariant-loop-offset : goal.invariant-loop-offset
invariant-loop-offset l = (l.offset ≤ length l.name) × (extension (drop l.offset l.name) ≡ None)

abbrev pub decreases-loop-offset : goal.decreases-loop-offset
decreases-loop-offset l = l.offset

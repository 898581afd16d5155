use Rattle.std.proofs.Common.{map}
use Rattle.attr_keys.specs.inner.MetRows.{IsMet}
use Rattle.attr_keys.proofs.Hashing.{Follows}
use Rattle.attr_keys.proofs.hashed.HashedRows.append_bucket.Given as goal

abbrev pub invariant-loop-end : goal.invariant-loop-end
invariant-loop-end g l =
    Follows (IsMet l.texts (map g.K.Keyed.content l.lines)) l.self.links.items l.head l.end l.initial.found.items l.found.items

abbrev pub decreases-loop-end : goal.decreases-loop-end
decreases-loop-end g l = l.end

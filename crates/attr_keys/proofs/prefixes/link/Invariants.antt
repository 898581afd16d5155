use Rattle.attr_keys.specs.inner.Cases.{keys_seen}
use Rattle.attr_keys.specs.shared.Rows.{IsLink}
use Rattle.attr_keys.proofs.prefixes.link.Given as goal

abbrev pub invariant-loop-end : goal.invariant-loop-end
invariant-loop-end g l = IsLink (keys_seen g.K.Keyed.content l.keys) l.rows l.index l.end

abbrev pub decreases-loop-end : goal.decreases-loop-end
decreases-loop-end g l = l.end

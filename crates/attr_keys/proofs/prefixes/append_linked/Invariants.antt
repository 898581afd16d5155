use Rattle.std.proofs.Common.{false, true}
use Rattle.attr_keys.specs.inner.Cases.{keys_seen, seen_text}
use Rattle.attr_keys.specs.shared.Codes.{codes_of}
use Rattle.attr_keys.proofs.Links.{IsAppended}
use Rattle.attr_keys.proofs.prefixes.append_linked.Given as goal

abbrev pub invariant-loop-end : goal.invariant-loop-end
invariant-loop-end g l = IsAppended (keys_seen g.K.Keyed.content l.keys) l.rows (codes_of false (seen_text l.keys.view l.text) true)
    l.initial.found.items l.end l.found.items

abbrev pub decreases-loop-end : goal.decreases-loop-end
decreases-loop-end g l = l.end

use Rattle.attr_wildmatch.specs.Brackets.{member_holds}
use Rattle.attr_wildmatch.specs.inner.ByteSets.{has}
use Rattle.attr_wildmatch.proofs.ByteSetLemmas.{next_held}
use Rattle.attr_wildmatch.proofs.bracket.insert_member.Goals as goal

pub loop-byte-preserved : goal.loop-byte-preserved
loop-byte-preserved c = λ b.
    next_held _ (has c.loop-byte.set b) (has c.args.set.now b) (member_holds c.args.member b) b c.loop-byte.byte (c.insert_held.ensures b)
    (c.loop-byte.invariant b)

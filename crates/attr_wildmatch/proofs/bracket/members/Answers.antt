use Rattle.std.proofs.Common.{◌≡◌, ◌&&◌, not, suc, ◌==◌, length, Some, false, ◌∷◌, arith, ap, sym}
use Rattle.std.proofs.lemmas.Bool.Decides.{nat_tests}
use Rattle.attr_wildmatch.specs.Bytes.{close_bracket}
use Rattle.attr_wildmatch.specs.Brackets.{member_at}
use Rattle.attr_wildmatch.proofs.ClosingLemmas.{close-member}
use Rattle.attr_wildmatch.proofs.MembersLemmas.{after, after-nil, members_more}
use Rattle.attr_wildmatch.proofs.SpellMembers.{member_of, member_shorter}
use Rattle.attr_wildmatch.proofs.bracket.members.Goals as goal

pub loop-byte-init : goal.loop-byte-init
loop-byte-init c = grind (arith, nat_tests, after-nil)

pub loop-byte-preserved : goal.loop-byte-preserved
loop-byte-preserved c =
    let b = c.in-Some.byte.now in
    let bs = c.in-Some.tail.now in
    let rest = c.in-Some-read_member.tail.now in
    let list = c.loop-byte.list.items in
    let before = c.loop-byte.invariant in
    let split : c.loop-byte.rest.now ≡ b ∷ bs = c.in-Some.ensures.cases.0 in
    let whole : length c.loop-byte.rest.now ≡ suc (length bs) = ap length split in
    let open_still : (b == close_bracket && not c.loop-byte.first) ≡ false = sym c.if-closes.ensures in
    let read : member_at b bs ≡ Some (c.in-Some-read_member.member, rest) = sym c.in-Some-read_member.ensures in
    let spelled = member_of c.loop-byte.first b bs c.in-Some-read_member.member rest open_still read in
    let shorter = member_shorter c.loop-byte.first (b ∷ bs) c.in-Some-read_member.member rest spelled in
    let next = members_more list before.1 c.loop-byte.first b bs c.in-Some-read_member.member rest open_still read (omega arith) (omega arith) in (
      omega arith,
      next.0,
      next.1,
      grind (arith, nat_tests, after, c.in_ok-push.ensures.items),
      close-member c.loop-byte.first b bs c.in-Some-read_member.member rest spelled c.next_close-close.result c.next_close-close.ensures,
    )

pub loop-byte-smaller : goal.loop-byte-smaller
loop-byte-smaller c =
    let spelled = member_of c.loop-byte.first c.in-Some.byte.now c.in-Some.tail.now c.in-Some-read_member.member c.in-Some-read_member.tail.now
    (sym c.if-closes.ensures) (sym c.in-Some-read_member.ensures) in
    omega (arith, ap length c.in-Some.ensures.cases.0, member_shorter c.loop-byte.first _ _ _ spelled)

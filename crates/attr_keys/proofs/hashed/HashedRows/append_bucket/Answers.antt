use Rattle.std.proofs.Common.{◌≡◌, ◌<◌, ◌-◌, Some, arith, get_or, length, map, refl, subst, suc, sym}
use Rattle.std.specs.Prelude.{slice_get}
use Rattle.std.proofs.lemmas.Bool.Decides.{nat_tests}
use Rattle.std.proofs.lemmas.List.{get_or_read_under}
use Rattle.std.proofs.lemmas.Option.{slice_get-map, slice_get_read}
use Rattle.attr_keys.specs.inner.MetRows.{IsMet}
use Rattle.attr_keys.specs.shared.Meeting.{key_content}
use Rattle.attr_keys.proofs.Hashing.{Follows, follows_other, follows_same, followed}
use Rattle.attr_keys.proofs.hashed.HashedRows.append_bucket.Goals as goal
use Rattle.attr_keys.proofs.hashed.HashedRows.append_bucket.Goals.{then-have+in_ok-push, else-have}

pub loop-end-smaller : goal.loop-end-smaller
loop-end-smaller g c =
    let links = c.args.self.now.links.items in
    let next = c.loop-end.end - 1 in
    let within : next < length links = omega (arith, c.loop-end.invariant.within, c.loop-end-test.true) in
    let link : c.index.result.now ≡ get_or links next 0 =
    get_or_read_under links next (length links) c.index.result.now 0 c.index.ensures within refl in
    omega (arith, link, c.args.self.now.bounded.earlier next, c.loop-end-test.true)

pub loop-end-preserved : goal.loop-end-preserved
loop-end-preserved g c =
    let keys = map g.K.Keyed.content c.args.lines.now in
    let Met = IsMet c.args.texts keys in
    let links = c.args.self.now.links.items in
    let next = c.loop-end.end - 1 in
    let old = c.args.found.now.items in
    let within : next < length links = omega (arith, c.loop-end.invariant.within, c.loop-end-test.true) in
    let is : c.loop-end.end ≡ suc next = omega (arith, c.loop-end-test.true) in
    let link : c.index.result.now ≡ get_or links next 0 =
    get_or_read_under links next (length links) c.index.result.now 0 c.index.ensures within refl in
    let at : slice_get keys next ≡ Some (key_content c.key.result) =
    grind (arith, nat_tests, slice_get-map, slice_get_read, c.index-lines-row.is, c.key.ensures, within, c.requires.counted) in
    subst (λ e. Follows Met links c.args.head e old c.if-have.found.items) (sym link) (elim c.if-have.branch [
      | then-have+in_ok-push w ↦
          follows_same Met links c.args.head c.loop-end.end next old c.loop-end.found.items c.if-have.found.items is
          (c.args.self.now.bounded.earlier next) (grind (arith, at, c.have.ensures, w.if-have.true))
          (grind (arith, w.found-is, w.in_ok-push.ensures.items)) c.loop-end.invariant
      | else-have w ↦
          subst (λ f. Follows Met links c.args.head (get_or links next 0) old f) (grind (arith, w.found-is))
          (follows_other Met links c.args.head c.loop-end.end next old c.loop-end.found.items is (c.args.self.now.bounded.earlier next)
          (λ met. absurd (grind (arith, at, met, c.have.ensures, w.if-have.false))) c.loop-end.invariant)
    ])

pub returns : goal.returns
returns g c =
    followed (IsMet c.args.texts (map g.K.Keyed.content c.args.lines.now)) c.args.self.now.links.items c.args.head c.loop-end.end
    c.args.found.now.items c.loop-end.found.items (grind (arith, nat_tests, c.loop-end-test.false)) c.loop-end.invariant

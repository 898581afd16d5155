use Rattle.std.proofs.Common.{map, arith}
use Rattle.std.proofs.lemmas.Bool.Decides.{nat_tests}
use Rattle.std.proofs.lemmas.Option.{same_Some}
use Rattle.attr_keys.proofs.key_index.KeyIndex.of.Goals as goal
use Rattle.attr_keys.proofs.key_index.KeyIndex.of.Goals.{then-deref+in_ok-rows+in_ok-of+in_ok-new, else-deref}

pub returns : goal.returns
returns g c =
    let keys = map g.K.Keyed.content c.args.lines.now in
    let own = c.requires c.in-Some.rows c.in-Some.is in
    record {
      exact = λ x at.
          grind (arith, nat_tests, same_Some, own.0, c.of-2.ensures, c.in_ok-exact.ensures, c.into_inner.ensures, c.in_ok-new-2.ensures.ok);
      folded = λ x at. elim c.if-deref.branch [
        | then-deref+in_ok-rows+in_ok-of+in_ok-new w ↦
            grind (arith, nat_tests, same_Some, w.folded-is, w.in_ok-of.ensures, w.in_ok-rows.ensures.fold, w.in_ok-new.ensures.ok)
        | else-deref w ↦ absurd (grind (arith, nat_tests, w.folded-is))
      ];
      lower = λ none x at. elim c.if-deref.branch [
        | then-deref+in_ok-rows+in_ok-of+in_ok-new w ↦ absurd (grind (arith, nat_tests, w.folded-is))
        | else-deref w ↦ own.1.lower (grind (arith, nat_tests, w.if-deref.false, c.deref.ensures))
      ];
    }

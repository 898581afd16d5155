use Rattle.std.proofs.Common.{◌≡◌, ◌+◌, length, true, [], ◌∷◌, ◌++◌, ◌&&◌, sym, ap, subst, ◌∙◌, arith}
use Rattle.std.proofs.lemmas.Bool.Decides.{nat_tests}
use Rattle.std.proofs.lemmas.List.{length_push}
use Rattle.attr_wildmatch.specs.Deciding.{matches}
use Rattle.attr_wildmatch.specs.TokenList.{token_of, tokens_of}
use Rattle.attr_wildmatch.specs.inner.Bordered.{is_bordered}
use Rattle.attr_wildmatch.proofs.TokenLemmas.{tokens_of-push}
use Rattle.attr_wildmatch.proofs.Ends.{all_left, end_step, end_none, bordered-init}
use Rattle.attr_wildmatch.proofs.wildmatch.skip_end.Goals as goal

pub returns-in_err-byte : goal.returns-in_err-byte
returns-in_err-byte c = grind (arith, nat_tests, tokens_of-push, end_none)

pub returns-then-not-takes : goal.returns-then-not-takes
returns-then-not-takes c =
    let t = token_of c.in-Some.token.now in
    let left : tokens_of c.loop-token.left.now ≡ tokens_of c.in-Some.before.now ++ t ∷ [] =
    ap tokens_of c.in-Some.ensures.cases.0 ∙ tokens_of-push c.in-Some.before.now c.in-Some.token.now in
    end_step c.args.case (tokens_of c.args.tokens.now) (tokens_of c.loop-token.left.now) (tokens_of c.in-Some.before.now)
    c.args.value.now c.loop-token.rest.now c.in_ok-byte.others.now t c.in_ok-byte.byte.now
    (sym c.may_be_empty.ensures ∙ c.if-may_be_empty.false) left c.in_ok-byte.ensures.cases.0 c.loop-token.invariant.matched
    ∙ ap (λ x. x && matches c.args.case (tokens_of c.in-Some.before.now) c.in_ok-byte.others.now) (sym c.takes.ensures ∙ c.if-not-takes.true)

pub loop-token-init : goal.loop-token-init
loop-token-init c = all_left c.args.case (tokens_of c.args.tokens.now) c.args.value.now

pub loop-token-preserved : goal.loop-token-preserved
loop-token-preserved c =
    let t = token_of c.in-Some.token.now in
    let before = tokens_of c.in-Some.before.now in
    let left : tokens_of c.loop-token.left.now ≡ before ++ t ∷ [] =
    ap tokens_of c.in-Some.ensures.cases.0 ∙ tokens_of-push c.in-Some.before.now c.in-Some.token.now in
    let longer : length (tokens_of c.loop-token.left.now) ≡ length before + 1 = ap length left ∙ length_push before t in
    record {
      matched =
          end_step c.args.case (tokens_of c.args.tokens.now) (tokens_of c.loop-token.left.now) before
          c.args.value.now c.loop-token.rest.now c.in_ok-byte.others.now t c.in_ok-byte.byte.now
          (sym c.may_be_empty.ensures ∙ c.if-may_be_empty.false) left c.in_ok-byte.ensures.cases.0 c.loop-token.invariant.matched
          ∙ ap (λ x. x && matches c.args.case before c.in_ok-byte.others.now) (sym c.takes.ensures ∙ c.if-not-takes.false);
      bordered = λ h. bordered-init true before t (subst (λ x. is_bordered true x ≡ true) left (c.loop-token.invariant.bordered h));
      fewer = omega (arith, longer, c.loop-token.invariant.fewer);
    }

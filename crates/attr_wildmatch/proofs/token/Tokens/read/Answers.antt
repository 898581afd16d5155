use Rattle.std.proofs.lemmas.Grind.{common_steps}
use Rattle.std.proofs.lemmas.Bool.Decides.{nat_tests}
use Rattle.std.proofs.Common.{◌≡◌, ◌+◌, ◌≤◌, suc, length, true, Some, [], ◌∷◌, ◌++◌, arith, ap, sym, ◌∙◌}
use Rattle.std.proofs.lemmas.List.{length_push}
use Rattle.attr_wildmatch.specs.Tokens.{tokens_from, token_at, token_ends_in_slash}
use Rattle.attr_wildmatch.specs.TokenList.{token_of, tokens_of}
use Rattle.attr_wildmatch.proofs.TokenLemmas.{after, after-nil, tokens_more, tokens_of-push, length_of_tokens}
use Rattle.attr_wildmatch.proofs.SpellTokens.{bordered}
use Rattle.attr_wildmatch.proofs.token.Tokens.read.Goals as goal

pub loop-byte-init : goal.loop-byte-init
loop-byte-init c =
    rw c.in_ok-list.ensures.items
    (omega arith, length c.args.text.now, omega arith, after-nil (tokens_from (length c.args.text.now) true c.args.text.now))

pub returns-clause-few : goal.returns-clause-few
returns-clause-few c = rw length_of_tokens (omega (arith, c.loop-byte.invariant.0))

pub loop-byte-preserved : goal.loop-byte-preserved
loop-byte-preserved c =
    let b = c.in-Some.byte.now in
    let bs = c.in-Some.tail.now in
    let t = token_of c.in-Some-2.token in
    let rest = c.in-Some-2.tail.now in
    let list = c.loop-byte.list.items in
    let before = c.loop-byte.invariant in
    let split : c.loop-byte.rest.now ≡ b ∷ bs = c.in-Some.ensures.cases.0 in
    let whole : length c.loop-byte.rest.now ≡ suc (length bs) = ap length split in
    let ensured = rw c.in-Some-2.is at c.in_ok-token.ensures in
    let shorter : length rest ≤ length bs = ensured.shorter in
    let read : token_at c.loop-byte.border b bs ≡ Some (t, rest) = sym ensured.token in
    let next = tokens_more (tokens_of list) before.1 c.loop-byte.border b bs t rest read (omega arith) shorter in
    let pushed : c.push.new.self.items ≡ list ++ c.in-Some-2.token ∷ [] = c.in_ok-push.ensures.items in
    let meant : tokens_of c.push.new.self.items ≡ tokens_of list ++ t ∷ [] = ap tokens_of pushed ∙ tokens_of-push list c.in-Some-2.token in
    let longer : length c.push.new.self.items ≡ length list + 1 = ap length pushed ∙ length_push list c.in-Some-2.token in
    let slash : c.ends_in_slash-border.result ≡ token_ends_in_slash t = c.ends_in_slash-border.ensures in
    (omega (arith, before.0), next.0, next.1, grind (arith, nat_tests, after))

pub invariant_of-result : goal.invariant_of-result
invariant_of-result c = grind (arith, common_steps, nat_tests, bordered)

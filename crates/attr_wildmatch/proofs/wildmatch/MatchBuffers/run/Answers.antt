use Rattle.std.proofs.lemmas.Grind.{common_steps}
use Rattle.std.proofs.Common.{◌≡◌, ◌≤◌, ◌<◌, ◌+◌, [], length, vec_capacity, All, arith, refl, ap, sym, subst, ◌∙◌}
use Rattle.std.proofs.Math.Nat.{mul-le-mul}
use Rattle.std.proofs.lemmas.Bool.Decides.{nat_tests}
use Rattle.std.proofs.lemmas.Bool.{eq-eqb, eqb-true}
use Rattle.attr_wildmatch.specs.TokenList.{tokens_of}
use Rattle.attr_wildmatch.specs.inner.RowIndexes.{IsRow, indexes_below}
use Rattle.attr_wildmatch.proofs.TokenLemmas.{length_of_tokens}
use Rattle.attr_wildmatch.proofs.RowLemmas.{empty_row}
use Rattle.attr_wildmatch.proofs.Reached.{fresh, alive}
use Rattle.attr_wildmatch.proofs.ReachedSteps.{growing}
use Rattle.attr_wildmatch.proofs.RunLemmas.{IsAt, first_bytes, at_start, at_more, step_at, fresh-first, below_free, matched_at_end}
use Rattle.attr_wildmatch.proofs.RunLemmas.{missed_at_end, dead}
use Rattle.attr_wildmatch.proofs.wildmatch.MatchBuffers.run.Goals as goal

pub loop-byte-init : goal.loop-byte-init
loop-byte-init c =
    let ts = tokens_of c.args.tokens.now in
    let same = length_of_tokens c.args.tokens.now in
    let cleared : c.clear.new.self.items ≡ [] = c.clear.ensures.items in
    let none : length c.clear.new.self.items ≡ 0 = ap length cleared in
    let row : IsRow ts (fresh c.args.case ts []) (alive c.args.case ts []) c.insert-free.new.row.items c.insert-free.result =
    c.insert-free.ensures.row (fresh c.args.case ts []) (alive c.args.case ts []) (growing c.args.case ts [])
    (empty_row ts (fresh c.args.case ts []) (alive c.args.case ts []) c.clear.new.self.items cleared) refl (λ k l m. absurd (omega arith)) in
    let some : 0 < c.insert-free.result = c.insert-free.ensures.inserted.added in
    let bound : c.insert-free.result ≤ length c.args.tokens.now + 1 = c.insert-free.ensures.inserted.extended.bound (omega arith) in
    let paid : c.insert-free.result ≤ 0 + length c.insert-free.new.row.items =
    c.insert-free.ensures.inserted.extended.reached 0 (omega arith) (omega arith) in
    let counted : length c.insert-free.new.row.items ≡ c.len-visits.result = omega (arith, c.len-visits.ensures, c.insert-free.new.row.ok) in (
      subst (λ x. IsAt c.args.case ts c.args.value.now c.insert-free.new.row.items c.insert-free.result x 0) counted
          (at_start c.args.case ts c.args.value.now c.insert-free.new.row.items c.insert-free.result row some (omega arith) (omega arith)),
      grind (arith, nat_tests, c.clear.ensures.capacity, c.insert-free.ensures.inserted.extended.capacity),
    )

pub returns-then-free-eq0-clause-matched : goal.returns-then-free-eq0-clause-matched
returns-then-free-eq0-clause-matched c =
    let none = dead c.args.case (tokens_of c.args.tokens.now) c.args.value.now c.loop-byte.self-inside.row.items c.loop-byte.free c.loop-byte.visits
    c.loop-byte.byte-index c.requires.bordered c.loop-byte.invariant.0 c.if-free-eq0.true (omega arith) in
    ((λ t. cc), λ m. absurd (none.0 m))

pub returns-then-free-eq0-clause-at_most : goal.returns-then-free-eq0-clause-at_most
returns-then-free-eq0-clause-at_most c = grind (arith, common_steps, nat_tests, length_of_tokens, c.loop-byte.invariant.0.most)

pub returns-then-free-eq0-clause-missed : goal.returns-then-free-eq0-clause-missed
returns-then-free-eq0-clause-missed c =
    (dead c.args.case (tokens_of c.args.tokens.now) c.args.value.now c.loop-byte.self-inside.row.items c.loop-byte.free c.loop-byte.visits
    c.loop-byte.byte-index c.requires.bordered c.loop-byte.invariant.0 c.if-free-eq0.true (omega arith)).1

pub next_row-free-requires-clause-capacity : goal.next_row-free-requires-clause-capacity
next_row-free-requires-clause-capacity c = grind (arith, nat_tests, c.loop-byte.invariant.1)

next_at : (c : goal.After-len) →
    IsAt c.args.case (tokens_of c.args.tokens.now) c.args.value.now c.next_row-free.new.next.items c.next_row-free.result
    (c.loop-byte.visits + length c.next_row-free.new.next.items) (c.loop-byte.byte-index + 1)
next_at c =
    let ts = tokens_of c.args.tokens.now in
    let same = length_of_tokens c.args.tokens.now in
    let a = c.loop-byte.invariant.0 in
    let value = c.args.value.now in
    let i = c.loop-byte.byte-index in
    let row : c.loop-byte.self-inside.row.items ≡ indexes_below (alive c.args.case ts (first_bytes value i)) (length c.args.tokens.now + 1) =
    a.row_is ∙ ap (λ x. indexes_below (alive c.args.case ts (first_bytes value i)) (x + 1)) same in
    let given : c.deref.result.now ≡ c.loop-byte.self-inside.row.items = c.deref.ensures.value in
    let known = c.next_row-free.ensures.row (fresh c.args.case ts (first_bytes value (i + 1))) (alive c.args.case ts (first_bytes value (i + 1)))
    (alive c.args.case ts (first_bytes value i)) (step_at c.args.case ts value i c.requires.bordered c.loop-byte-test.true)
    (fresh-first c.args.case ts value i c.loop-byte-test.true) (given ∙ row) in
    let below : All (λ k. k < c.loop-byte.free) c.deref.result.now =
    subst (All (λ k. k < c.loop-byte.free)) (sym given)
    (below_free c.args.case ts value c.loop-byte.self-inside.row.items c.loop-byte.free c.loop-byte.visits i a) in
    at_more c.args.case ts value c.loop-byte.self-inside.row.items c.next_row-free.new.next.items c.loop-byte.free c.next_row-free.result
    c.loop-byte.visits i a c.loop-byte-test.true known.0 (λ k l m. known.1 k l (omega arith)) (omega (arith, c.next_row-free.ensures.bound))
    (c.next_row-free.ensures.reached c.loop-byte.free below)

pub overflow_add-visits : goal.overflow_add-visits
overflow_add-visits c = grind (arith, nat_tests, length_of_tokens, next_at, mul-le-mul)

pub loop-byte-preserved : goal.loop-byte-preserved
loop-byte-preserved c =
    let fact2 = c.loop-byte.invariant.1 in
    let fact = c.next_row-free.ensures.capacity in
    grind (arith, nat_tests, next_at c, vec_capacity, fact2, c.swap.ensures.x_after, c.len.ensures, c.swap.new.x.ok, c.swap.ensures.y_after, fact)

ended : (c : goal.After-loop-byte) → IsAt c.args.case (tokens_of c.args.tokens.now) c.args.value.now
    c.loop-byte.self-inside.row.items c.loop-byte.free c.loop-byte.visits (length c.args.value.now)
ended c = grind (arith, nat_tests)

pub returns-clause-matched : goal.returns-clause-matched
returns-clause-matched c =
    let m = matched_at_end c.args.case (tokens_of c.args.tokens.now) c.args.value.now c.loop-byte.self-inside.row.items c.loop-byte.free
    c.loop-byte.visits (ended c) in
    grind (arith, nat_tests, length_of_tokens, eqb-true, eq-eqb)

pub returns-clause-at_most : goal.returns-clause-at_most
returns-clause-at_most c = grind (arith, nat_tests, length_of_tokens, ended)

pub returns-clause-missed : goal.returns-clause-missed
returns-clause-missed c =
    missed_at_end c.args.case (tokens_of c.args.tokens.now) c.args.value.now c.loop-byte.self-inside.row.items c.loop-byte.free
    c.loop-byte.visits (ended c)

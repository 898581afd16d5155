use Rattle.std.proofs.Common.{◌==◌, ◌-◌, ◌≡◌, ◌≢◌, ℕ, List, [], ◌∷◌, ◌++◌, cond, Some, None, length, take, sym, ap, arith, ◌∙◌}
use Rattle.std.proofs.lemmas.Grind.{common_steps}
use Rattle.std.proofs.lemmas.Bool.Decides.{nat_tests}
use Rattle.std.proofs.lemmas.Bool.{ne_eqb}
use Rattle.attr_wildmatch.specs.Bytes.{colon}
use Rattle.attr_wildmatch.specs.Brackets.{name_in}
use Rattle.attr_wildmatch.specs.inner.Closing.{from_close}
use Rattle.attr_wildmatch.proofs.ClosingLemmas.{from_close_few, name_in-none, name_in-at_once, name_in-first}
use Rattle.attr_wildmatch.proofs.bracket.class_name.Goals as goal

pub slice_bounds-split_last-count : goal.slice_bounds-split_last-count
slice_bounds-split_last-count c = let few = from_close_few c.args.bytes.now in omega (arith, c.requires, few)

pub returns-then-close-eq0-clause-name : goal.returns-then-close-eq0-clause-name
returns-then-close-eq0-clause-name c = grind (arith, nat_tests, name_in-none)

pub returns-in_err-last-clause-name : goal.returns-in_err-last-clause-name
returns-in_err-last-clause-name c = grind (arith, common_steps, nat_tests, name_in-at_once, from_close_few)

known : (bs front : List ℕ) (c close : ℕ) → close ≡ from_close bs → close ≢ 0 → take (length bs - close) bs ≡ front ++ c ∷ [] →
    name_in bs ≡ cond (c == colon) (Some front) None
known bs front c close e some h = name_in-first bs front c (length bs - close) (omega (arith, from_close_few bs)) (λ z. some (e ∙ z)) h

pub returns-then-last-eq58-clause-name : goal.returns-then-last-eq58-clause-name
returns-then-last-eq58-clause-name c =
    sym (known c.args.bytes.now c.in_ok-last.name.now c.in_ok-last.last.now c.args.close c.requires c.if-close-eq0.false c.in_ok-last.ensures.cases.0
    ∙ ap (λ b. cond (b == colon) (Some c.in_ok-last.name.now) None) c.if-last-eq58.true)

pub returns-clause-name : goal.returns-clause-name
returns-clause-name c =
    sym (known c.args.bytes.now c.in_ok-last.name.now c.in_ok-last.last.now c.args.close c.requires c.if-close-eq0.false c.in_ok-last.ensures.cases.0
    ∙ ap (λ v. cond v (Some c.in_ok-last.name.now) None) (ne_eqb _ _ c.if-last-eq58.false))

use Rattle.std.proofs.Common.{◌&&◌, not, reverse, eqb, nat_eq, sym, ap, ◌≡◌, ◌≢◌, ℕ, Bool, arith, ◌∙◌}
use Rattle.std.proofs.lemmas.Bool.Decides.{nat_tests}
use Rattle.attr_keys.specs.inner.Extensions.{dot_byte, is_reversed_extension}
use Rattle.attr_keys.proofs.ExtensionTexts.{any_dot, extension_cons}
use Rattle.attr_keys.proofs.hashed.is_extension.Goals as goal

other : (b : ℕ) (t : Bool) → b ≢ dot_byte → nat_eq b 46 ≡ eqb b dot_byte && t
other b t apart = grind (arith, nat_tests)

pub returns-then-first-eq46 : goal.returns-then-first-eq46
returns-then-first-eq46 c =
    let first = c.in-Some.first.now in
    let rest = c.in-Some.rest.now in
    ap not c.contains.ensures.value
    ∙ (ap (λ b. eqb b dot_byte && not (any_dot rest)) (sym c.if-first-eq46.true)
    ∙ (extension_cons first rest ∙ ap (λ l. is_reversed_extension (reverse l)) (sym c.in-Some.ensures.cases.0)))

pub returns-else-first-eq46 : goal.returns-else-first-eq46
returns-else-first-eq46 c =
    let first = c.in-Some.first.now in
    let rest = c.in-Some.rest.now in
    other first (not (any_dot rest)) c.if-first-eq46.false
    ∙ (extension_cons first rest ∙ ap (λ l. is_reversed_extension (reverse l)) (sym c.in-Some.ensures.cases.0))

use Rattle.std.proofs.lemmas.Bool.Decides.{nat_tests}
use Rattle.std.proofs.Common.{◌≡◌, true, false, Some, None, length, take, position, sym, ap, ◌∙◌, arith}
use Rattle.std.specs.List.{starts_with}
use Rattle.attr_glob.specs.Patterns.{is_wildcard, is_suffix, has_flag, ends_with as ends_with_flag}
use Rattle.attr_wildmatch.specs.Matching.{same_byte}
use Rattle.attr_glob.specs.Views.{pattern_view}
use Rattle.attr_glob.proofs.Literals.{text_matches-literal, text_matches-suffix, text_matches-front, no_wildcard, offset_inside}
use Rattle.attr_glob.proofs.PathLemmas.{reading-wildcard, reading-ends_with}
use Rattle.attr_glob.proofs.pattern.Pattern.answer_by_bytes.Goals as goal

pub returns-in_default-clause-matched : goal.returns-in_default-clause-matched
returns-in_default-clause-matched c = λ text read.
    let own = c.args.self.now.text.items in
    let none : position is_wildcard own ≡ None = sym (reading-wildcard text (pattern_view c.args.self.now) read) ∙ c.in_default.is in
    grind (arith, nat_tests, text_matches-literal, no_wildcard, c.same_text.ensures.bytes, c.as_slice-text.ensures.value)

pub returns-then-not-starts_with-clause-matched : goal.returns-then-not-starts_with-clause-matched
returns-then-not-starts_with-clause-matched c = λ text read.
    let own = c.args.self.now.text.items in
    let found : position is_wildcard own ≡ Some c.in-Some.offset = sym (reading-wildcard text (pattern_view c.args.self.now) read) ∙ c.in-Some.is in
    let inside = offset_inside own c.in-Some.offset found in
    let same = c.as_slice-text.ensures.value in
    let long : length c.as_slice-text.result.now ≡ length own = ap length same in
    let offset : c.min.result ≡ c.in-Some.offset = omega (arith, c.min.ensures) in
    let front : take c.min.result c.as_slice-text.result.now ≡ take c.in-Some.offset own = grind (arith, nat_tests) in
    let other : starts_with (same_byte c.args.case) c.args.value.now (take c.in-Some.offset own) ≡ false =
    sym (ap (starts_with (same_byte c.args.case) c.args.value.now) front) ∙ (sym c.starts_with.ensures ∙ c.if-not-starts_with.true) in
    sym (text_matches-front c.args.case own c.args.value.now c.in-Some.offset found other)

pub returns-then-contains-clause-matched : goal.returns-then-contains-clause-matched
returns-then-contains-clause-matched c = λ text read.
    let own = c.args.self.now.text.items in
    let r = pattern_view c.args.self.now in
    let flag : has_flag r.mode ends_with_flag ≡ true = sym (c.contains.ensures tt) ∙ c.if-contains.true in
    let suffix : is_suffix own ≡ true = sym (reading-ends_with text r read) ∙ flag in
    grind (arith, nat_tests, text_matches-suffix, c.is_star_then.ensures, c.after_star.ensures, c.as_slice-text.ensures.value)

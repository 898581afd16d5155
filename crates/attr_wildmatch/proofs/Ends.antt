-- Tokens that take one byte each, taken off at either end with their bytes, and the tokens that then take any rest.
use Rattle.std.proofs.lemmas.Grind.{common_steps}
use Rattle.std.proofs.Common.{◌≡◌, ℕ, Bool, true, false, ◌&&◌, List, [], ◌∷◌, ◌++◌, length, reverse, arith}
use Rattle.std.proofs.Common.{Option, None, Some, if◌then◌else◌, refl, sym, subst, ◌∙◌}
use Rattle.std.proofs.lemmas.Bool.Decides.{nat_tests}
use Rattle.std.proofs.lemmas.Bool.{and_from, and_parts}
use Rattle.std.proofs.lemmas.List.{reverse-append, reverse-reverse}
use Rattle.attr_wildmatch.specs.declared.case.Case.{Case}
use Rattle.attr_wildmatch.specs.Tokens.{Token, lit, one, set, dirs, token_ends_in_slash}
use Rattle.attr_wildmatch.specs.inner.Bordered.{is_bordered}
use Rattle.attr_wildmatch.specs.inner.Left.{IsLeft, AreTakenOff}
use Rattle.attr_wildmatch.specs.inner.Stretches.{front_left}
use Rattle.attr_wildmatch.specs.Matching.{Match}
use Rattle.attr_wildmatch.specs.Deciding.{takes_byte, matches}
use Rattle.attr_wildmatch.specs.inner.RowIndexes.{may_be_nothing}
use Rattle.attr_wildmatch.proofs.Basics.{by_test}
use Rattle.attr_wildmatch.proofs.DecidingLemmas.{match_of_test, test_of_match}
use Rattle.attr_wildmatch.proofs.Reached.{match_of_reached, reached, reached_of_match}

pub same_answer : (a b : Bool) → (a ≡ true → b ≡ true) → (b ≡ true → a ≡ true) → a ≡ b
same_answer a b h k = grind (arith, nat_tests)

-- tokens match if they are reached from the end
matches_back : (case : Case) (ts : List Token) (v : List ℕ) → matches case ts v ≡ reached case (reverse ts) (reverse v)
matches_back case ts v =
    let from = match_of_reached case (reverse ts) (reverse v) in
    let to = reached_of_match case (reverse ts) v in
    grind (arith, nat_tests, same_answer, match_of_test, test_of_match, from, to, reverse-reverse)

bordered_start : (border : Bool) (ts : List Token) → is_bordered border ts ≡ true → is_bordered true ts ≡ true
bordered_start border [] h = refl
bordered_start border ts h = grind (arith, nat_tests, and_parts)

-- without its first token a list is bordered as well
pub bordered-tail : (t : Token) (ts : List Token) → is_bordered true (t ∷ ts) ≡ true → is_bordered true ts ≡ true
bordered-tail t ts h = grind (arith, nat_tests, bordered_start)

-- without its last token a list is bordered as well
pub bordered-init : (border : Bool) (ts : List Token) (t : Token) → is_bordered border (ts ++ t ∷ []) ≡ true → is_bordered border ts ≡ true
bordered-init border [] t h = refl
bordered-init border (dirs ∷ ts) t h = grind (arith, nat_tests, and_parts, and_from, bordered-init true ts t)
bordered-init border (u ∷ ts) t h = bordered-init (token_ends_in_slash u) ts t h

-- one step at the end: the test of the token decides, and what is before it
pub end_step : (case : Case) (ts left before : List Token) (v bytes others : List ℕ) (t : Token) (b : ℕ) → may_be_nothing t ≡ false →
    left ≡ before ++ t ∷ [] → bytes ≡ others ++ b ∷ [] → matches case ts v ≡ matches case left bytes →
    matches case ts v ≡ (takes_byte case t b && matches case before others)
end_step case ts left before v bytes others t b single l r e =
    grind (arith, nat_tests, matches_back, reverse-append)

pub end_none : (case : Case) (ts left before : List Token) (v bytes : List ℕ) (t : Token) → may_be_nothing t ≡ false →
    left ≡ before ++ t ∷ [] → length bytes ≡ 0 → matches case ts v ≡ matches case left bytes → matches case ts v ≡ false
end_none case ts left before v bytes t single l r e = grind (arith, common_steps, nat_tests, matches_back, reverse-append)

-- an answer by the relation is the one by the test
pub exact_answer : (case : Case) (ts : List Token) (v : List ℕ) (answer : Bool) → (answer ≡ true → Match case ts v) →
    (Match case ts v → answer ≡ true) →
    answer ≡ matches case ts v
exact_answer case ts v answer so back = grind (arith, nat_tests, same_answer, test_of_match, match_of_test)

pub all_left : (case : Case) (ts : List Token) (v : List ℕ) → IsLeft case ts v ts v
all_left case ts v = record { matched = refl; bordered = λ h. h; fewer = omega arith }

-- what is taken off what is left is taken off all
pub taken_off_then : (case : Case) (ts left : List Token) (v bytes : List ℕ) (more : Option (List Token × List ℕ)) →
    IsLeft case ts v left bytes → AreTakenOff case left bytes more → AreTakenOff case ts v more
taken_off_then case ts left v bytes None h k = h.matched ∙ k
taken_off_then case ts left v bytes (Some more) h k =
    record { matched = h.matched ∙ k.matched; bordered = λ b. k.bordered (h.bordered b); fewer = omega (arith, h.fewer, k.fewer) }

one_off : (case : Case) (t : Token) (ts : List Token) (b : ℕ) (bs : List ℕ) (more : Option (List Token × List ℕ)) →
    matches case (t ∷ ts) (b ∷ bs) ≡ (takes_byte case t b && matches case ts bs) → AreTakenOff case ts bs more →
    AreTakenOff case (t ∷ ts) (b ∷ bs) (if takes_byte case t b then more else None)
one_off case t ts b bs more e k =
    by_test (takes_byte case t b)
    (λ yes. rw yes (taken_off_then case (t ∷ ts) ts (b ∷ bs) bs more
    (record { matched = e ∙ rw yes refl; bordered = bordered-tail t ts; fewer = omega arith }) k))
    (λ no. rw no (e ∙ rw no refl))

-- the tokens of one byte at the front are taken off
pub front_taken_off : (case : Case) (ts : List Token) (v : List ℕ) → AreTakenOff case ts v (front_left case ts v)
front_taken_off case (lit c ∷ ts) (b ∷ bs) = one_off case (lit c) ts b bs (front_left case ts bs) refl (front_taken_off case ts bs)
front_taken_off case (one ∷ ts) (b ∷ bs) = one_off case one ts b bs (front_left case ts bs) refl (front_taken_off case ts bs)
front_taken_off case (set negated ms ∷ ts) (b ∷ bs) =
    one_off case (set negated ms) ts b bs (front_left case ts bs) refl (front_taken_off case ts bs)
front_taken_off case ts v = grind (arith, nat_tests, all_left)

pub front_left-none : (case : Case) (ts : List Token) (v : List ℕ) → None ≡ front_left case ts v → matches case ts v ≡ false
front_left-none case ts v e = subst (AreTakenOff case ts v) (sym e) (front_taken_off case ts v)

pub front_left-some : (case : Case) (ts : List Token) (v : List ℕ) (left : List Token × List ℕ) → Some left ≡ front_left case ts v →
    IsLeft case ts v left.0 left.1
front_left-some case ts v left e = subst (AreTakenOff case ts v) (sym e) (front_taken_off case ts v)

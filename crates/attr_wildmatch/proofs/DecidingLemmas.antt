-- The test of matching says what the relation says.
use Rattle.std.proofs.Common.{arith, ◌≡◌, ℕ, Bool, true, List, [], ◌∷◌, ap, ◌∙◌}
use Rattle.std.proofs.lemmas.Bool.Decides.{nat_tests}
use Rattle.std.proofs.lemmas.Bool.{or_cases, or_left, or_right}
use Rattle.attr_wildmatch.specs.declared.case.Case.{Case}
use Rattle.attr_wildmatch.specs.Tokens.{Token, lit, one, set, star, dirs, rest, tokens}
use Rattle.attr_wildmatch.specs.Matching.{Takes, Match, TextMatches}
use Rattle.attr_wildmatch.specs.Deciding.{takes_byte, byte_then, slash_then, token_then, is_nil, matches, some_match, text_matches}
use Rattle.attr_wildmatch.proofs.Basics.{by_option, each_of_all, all_of_each}
use Rattle.attr_wildmatch.proofs.SpellTokens.{spelled, read_back}
use Rattle.attr_wildmatch.proofs.Splits.{Split, byte_split, star_split, star_joined, rest_split, rest_joined, slash_split}
use Rattle.attr_wildmatch.proofs.Splits.{slash_joined, single_takes, single_taken}

single_split : (case : Case) (t : Token) (f : List ℕ → Bool) (v : List ℕ) → byte_then (takes_byte case t) f v ≡ true → Split (Takes case t) f v
single_split case t f v h =
    let s = byte_split (takes_byte case t) f v h in
    record { part = s.byte ∷ []; others = s.others; whole = s.whole; holds = single_takes case t s.byte s.passes; taken = s.taken }

-- what a token's test takes, it takes as a part
pub token_split : (case : Case) (t : Token) (f : List ℕ → Bool) (v : List ℕ) → token_then case t f v ≡ true → Split (Takes case t) f v
token_split case (lit c) f v h = single_split case (lit c) f v h
token_split case one f v h = single_split case one f v h
token_split case (set negated ms) f v h = single_split case (set negated ms) f v h
token_split case star f v h = grind (arith, nat_tests, star_split, all_of_each)
token_split case dirs f v h = grind (arith, nat_tests, or_cases (f v) (slash_then f v) h, slash_split f v)
token_split case rest f v h = let s = rest_split f v h in record { part = s.part; others = s.others; whole = s.whole; holds = tt; taken = s.taken }

pub match_of_test : (case : Case) (ts : List Token) (v : List ℕ) → matches case ts v ≡ true → Match case ts v
match_of_test case [] v h = grind (arith, nat_tests)
match_of_test case (t ∷ ts) v h = grind (arith, nat_tests, token_split, match_of_test case ts)

pub test_of_match : (case : Case) (ts : List Token) (v : List ℕ) → Match case ts v → matches case ts v ≡ true
test_of_match case [] v h = ap is_nil h
test_of_match case (t ∷ ts) v h =
    grind (arith, nat_tests, single_taken, star_joined, each_of_all, or_left, or_right, slash_joined, rest_joined, test_of_match case ts)

pub text_match_of_test : (case : Case) (text value : List ℕ) → text_matches case text value ≡ true → TextMatches case text value
text_match_of_test case text value h = by_option (tokens text)
    (λ n. let e = rw n at h in cc)
    (λ ts k. (ts, spelled text ts k, match_of_test case ts value (rw k at h)))

pub test_of_text_match : (case : Case) (text value : List ℕ) → TextMatches case text value → text_matches case text value ≡ true
test_of_text_match case text value m = ap (λ o. some_match case o value) (read_back text m.0 m.1) ∙ test_of_match case m.0 value m.2

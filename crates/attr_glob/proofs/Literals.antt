-- Matching where bytes stand for themselves: in a text without a wildcard, after its only star, and before its first wildcard.
use Rattle.std.proofs.Common.{◌≡◌, ◌≢◌, ℕ, zero, suc, ◌-◌, ◌+◌, ◌<◌, ◌≤◌, Bool, true, false, not, ◌&&◌, ◌||◌, ◌==◌, List, [], ◌∷◌}
use Rattle.std.proofs.Common.{◌++◌, length, take, drop, get_or, position, map, Option, Some, None, option_map, refl, sym, ap, ◌∙◌, arith}
use Rattle.std.specs.List.{list_any, position_from, starts_with, ends_with}
use Rattle.std.specs.Cmp.Lexicographic.{pointwise}
use Rattle.std.specs.Char.{to_ascii_lowercase}
use Rattle.std.proofs.lemmas.Bool.Decides.{nat_tests}
use Rattle.std.proofs.lemmas.Bool.{or_parts}
use Rattle.std.proofs.lemmas.Iterator.Adapters.{position_from-zero}
use Rattle.std.proofs.lemmas.List.{take-append-drop}
use Rattle.std.proofs.lemmas.List.Quantifiers.{position-Some}
use Rattle.attr_wildmatch.specs.declared.case.Case.{Case}
use Rattle.attr_wildmatch.specs.declared.case.Case.TheVariants.{Fold}
use Rattle.attr_wildmatch.specs.Bytes.{asterisk, slash}
use Rattle.attr_glob.specs.Patterns.{is_wildcard, is_suffix}
use Rattle.attr_wildmatch.specs.Slashes.{is_slash}
use Rattle.attr_wildmatch.specs.Tokens.{Token, lit, star, tokens_from, tokens}
use Rattle.attr_wildmatch.specs.Matching.{same_byte}
use Rattle.attr_wildmatch.specs.Deciding.{star_then, matches, some_match, text_matches}
use Rattle.attr_glob.specs.inner.StarEnds.{ends_after_star}
use Rattle.attr_wildmatch.proofs.ForCallers.{and_parts, and_both, by_test, equal, equal_so}

-- the tokens of bytes that stand for themselves
abbrev pub literals : List ℕ → List Token
literals [] = []
literals (b ∷ bs) = lit b ∷ literals bs

tokens_from-literal : (n : ℕ) (border : Bool) (text : List ℕ) → length text ≤ n → list_any is_wildcard text ≡ false →
    tokens_from n border text ≡ Some (literals text)
tokens_from-literal (suc n) border (b ∷ bs) l h = grind (arith, nat_tests, or_parts, tokens_from-literal n (b == slash) bs)
tokens_from-literal n border text l h = grind (arith, nat_tests)

matches-literals : (case : Case) (text value : List ℕ) → matches case (literals text) value ≡ pointwise (same_byte case) text value
matches-literals case (c ∷ cs) (b ∷ bs) = ap (λ x. same_byte case c b && x) (matches-literals case cs bs)
matches-literals case text value = refl

-- a text without wildcards matches the value that is the same
pub text_matches-literal : (case : Case) (text value : List ℕ) → list_any is_wildcard text ≡ false →
    text_matches case text value ≡ pointwise (same_byte case) text value
text_matches-literal case text value h = grind (arith, nat_tests, tokens_from-literal, matches-literals)

and_false : (a : Bool) → (a && false) ≡ false
and_false a = grind (arith, nat_tests)

-- texts of other lengths are not the same
pointwise-unlike : (case : Case) (text value : List ℕ) → length text ≢ length value → pointwise (same_byte case) text value ≡ false
pointwise-unlike case (c ∷ cs) (b ∷ bs) h = grind (arith, nat_tests, and_false, pointwise-unlike case cs bs)
pointwise-unlike case text value h = grind (arith, nat_tests)

and_true : (a : Bool) → a ≡ (a && true)
and_true a = grind (arith, nat_tests)

-- one more byte in front of a value that is long enough leaves its end as it is
end_longer : (case : Case) (text : List ℕ) (b : ℕ) (bs : List ℕ) → length text ≤ length bs →
    ends_with (same_byte case) (b ∷ bs) text ≡ ends_with (same_byte case) bs text
end_longer case text b bs l = grind (arith, nat_tests)

-- what is before the end of a longer value has its first byte
before_longer : (text : List ℕ) (b : ℕ) (bs : List ℕ) → length text ≤ length bs →
    list_any is_slash (take (suc (length bs) - length text) (b ∷ bs))
    ≡ (is_slash b || list_any is_slash (take (length bs - length text) bs))
before_longer text b bs l = grind (arith, nat_tests)

-- nothing is before the end of a value that is no longer
before_none : (text value : List ℕ) → length value ≤ length text → list_any is_slash (take (length value - length text) value) ≡ false
before_none text value l = grind (arith, nat_tests)

-- a star and then bytes that stand for themselves take a value that ends with these, and has no slash before
star_then-end : (case : Case) (text value : List ℕ) → star_then (matches case (literals text)) value ≡ ends_after_star case value text
star_then-end case text [] = grind (arith, nat_tests, matches-literals, and_true)
star_then-end case text (b ∷ bs) = grind (
  arith,
  nat_tests,
  matches-literals,
  pointwise-unlike,
  before_longer,
  end_longer,
  and_false,
  and_true,
  before_none,
  star_then-end case text bs,
)

-- one star, and after it no wildcard
tokens-suffix : (text : List ℕ) → list_any is_wildcard text ≡ false → tokens (asterisk ∷ text) ≡ Some (star ∷ literals text)
tokens-suffix text h = grind (arith, nat_tests, or_parts, tokens_from-literal)

-- a text of one star and no other wildcard takes a value that ends with what follows the star, and has no slash before
pub text_matches-suffix : (case : Case) (text value : List ℕ) → is_suffix text ≡ true →
    text_matches case text value ≡ ends_after_star case value (drop 1 text)
text_matches-suffix case [] value h = cc
text_matches-suffix case (b ∷ bs) value h =
    let w = and_parts (b == asterisk) (not (list_any is_wildcard bs)) h in
    let plain = no_more (list_any is_wildcard bs) w.1 in
    let same : b ≡ asterisk = equal b asterisk w.0 in
    ap (λ x. text_matches case (x ∷ bs) value) same
    ∙ (ap (λ o. some_match case o value) (tokens-suffix bs plain) ∙ star_then-end case bs value)
  where
    no_more : (a : Bool) → not a ≡ true → a ≡ false
    no_more a e = grind (arith, nat_tests)

-- the value begins with the byte, and the tokens after it take the rest
record Taken (case : Case) (c : ℕ) (o : Option (List Token)) (value : List ℕ) : Type 0 where
  pub byte : ℕ
  pub others : List ℕ
  pub whole : value ≡ byte ∷ others
  pub same : same_byte case c byte ≡ true
  pub tail : some_match case o others ≡ true

taken : (case : Case) (c : ℕ) (o : Option (List Token)) (value : List ℕ) →
    some_match case (option_map (λ ts. lit c ∷ ts) o) value ≡ true → Taken case c o value
taken case c o value h = grind (arith, nat_tests, and_parts)

front_taken : (case : Case) (front others : List ℕ) (n : ℕ) (border : Bool) (value : List ℕ) → list_any is_wildcard front ≡ false →
    some_match case (tokens_from n border (front ++ others)) value ≡ true → starts_with (same_byte case) value front ≡ true
front_taken case [] others n border value h k = refl
front_taken case (c ∷ cs) others zero border value h k = cc
front_taken case (c ∷ cs) others (suc n) border value h k =
    let fact = taken case c (tokens_from n (c == slash) (cs ++ others)) value in
    grind (arith, nat_tests, or_parts (is_wildcard c) (list_any is_wildcard cs) h, fact, and_both, front_taken case cs others n (c == slash))

-- no byte before an offset passes the test
none_before : (p : ℕ → Bool) (n : ℕ) (text : List ℕ) → n ≤ length text → ((k : ℕ) → k < n → p (get_or text k 0) ≡ false) →
    list_any p (take n text) ≡ false
none_before p (suc n) (b ∷ bs) l h =
    rw (h 0 (omega arith)) (none_before p n bs (omega arith) (λ k below. h (suc k) (omega arith)))
none_before p n text l h = grind (arith, nat_tests)

-- a value that doesn't begin with what stands before the first wildcard isn't matched
pub text_matches-front : (case : Case) (text value : List ℕ) (n : ℕ) → position is_wildcard text ≡ Some n →
    starts_with (same_byte case) value (take n text) ≡ false → text_matches case text value ≡ false
text_matches-front case text value n h k = by_test (text_matches case text value) (λ t. absurd (clash t)) (λ f. f)
  where
    clash : text_matches case text value ≡ true → ⊥
    clash t = grind (arith, nat_tests, position-Some is_wildcard text n 0 h, take-append-drop n text, none_before, front_taken)

-- without an offset no byte passes the test
none_found : (p : ℕ → Bool) (n : ℕ) (text : List ℕ) → position_from p n text ≡ None → list_any p text ≡ false
none_found p n [] h = refl
none_found p n (b ∷ bs) h = by_test (p b) (λ t. let e = rw t at h in cc) (λ f. rw f (none_found p (n + 1) bs (rw f at h)))

pub no_wildcard : (text : List ℕ) → position is_wildcard text ≡ None → list_any is_wildcard text ≡ false
no_wildcard text h = none_found is_wildcard 0 text (sym (position_from-zero is_wildcard text) ∙ h)

-- the first wildcard stands inside
pub offset_inside : (text : List ℕ) (n : ℕ) → position is_wildcard text ≡ Some n → n < length text
offset_inside text n h = let found = position-Some is_wildcard text n 0 h in found.0

-- texts whose lower forms are equal are the same under `Fold`
fold_same : (text value : List ℕ) → map to_ascii_lowercase text ≡ map to_ascii_lowercase value → pointwise (same_byte Fold) text value ≡ true
fold_same (c ∷ cs) (b ∷ bs) h = grind (arith, nat_tests, and_both, equal_so, fold_same cs bs)
fold_same text value h = grind (arith, nat_tests)

same_fold : (text value : List ℕ) → pointwise (same_byte Fold) text value ≡ true → map to_ascii_lowercase text ≡ map to_ascii_lowercase value
same_fold (c ∷ cs) (b ∷ bs) h = grind (arith, nat_tests, and_parts, equal, same_fold cs bs)
same_fold text value h = grind (arith, nat_tests)

pub folded : (text value : List ℕ) (r : Bool) → (r ≡ true → map to_ascii_lowercase text ≡ map to_ascii_lowercase value) →
    (map to_ascii_lowercase text ≡ map to_ascii_lowercase value → r ≡ true) → r ≡ pointwise (same_byte Fold) text value
folded text value r told so = grind (arith, nat_tests, fold_same, same_fold)

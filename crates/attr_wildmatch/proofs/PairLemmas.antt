-- The kinds of pairs that tokens need are in each text that they match.
use Rattle.std.proofs.Common.{◌≡◌, ◌<◌, ◌-◌, ◌*◌, ◌%◌, ◌^◌, ℕ, true, false, ◌||◌, ◌==◌, bit_or, bit_and, List, [], ◌∷◌, ◌++◌, length, take}
use Rattle.std.proofs.Common.{drop, refl, ap, arith, w64, inl, inr, eq-eqb, ne_eqb}
use Rattle.std.proofs.lemmas.List.{take-append-drop}
use Rattle.std.proofs.lemmas.Bool.{cases_eq, or_cases, or_left, or_right, eqb-true}
use Rattle.std.proofs.lemmas.Bool.Decides.{nat_tests}
use Rattle.std.proofs.lemmas.Nat.Bits.{bit_at_and, bit_at_ones, bit_at_set_same, bit_at_set_other, bit_at-lt, same_from_bits}
use Rattle.std.specs.Int.{bit_at}
use Rattle.attr_wildmatch.specs.declared.case.Case.{Case}
use Rattle.attr_wildmatch.specs.Tokens.{Token, lit}
use Rattle.attr_wildmatch.specs.Matching.{Match, Takes, same_byte}
use Rattle.attr_wildmatch.specs.Pairs.{begins_with_literals, has_pair, is_literal_pair, is_pair, kind, needs_pair}

-- one bit more is set
pub one_more : (bits i k : ℕ) → i < 64 → (bit_at (bit_or bits (1 * 2 ^ i % 2 ^ 64)) k == 1) ≡ ((bit_at bits k == 1) || k == i)
one_more bits i k low = elim (cases_eq k i) [
  | inl same ↦ rw (same, bit_at_set_same w64 bits i low, eq-eqb i i refl) (grind (arith, nat_tests))
  | inr other ↦ rw (bit_at_set_other w64 bits i low k other, ne_eqb k i other) (grind (arith, nat_tests))
]

pub all_ones : (k : ℕ) → k < 64 → (bit_at (2 ^ 64 - 1) k == 1) ≡ true
all_ones k low = eq-eqb (bit_at (2 ^ 64 - 1) k) 1 (bit_at_ones 64 k low)

-- the bits of a number are among those of another one
pub among_from : (a b : ℕ) → bit_and a b ≡ a → (k : ℕ) → (bit_at a k == 1) ≡ true → (bit_at b k == 1) ≡ true
among_from a b e k h =
    let m = ap (λ n. bit_at n k) e in
    let l = bit_at-lt b k in
    grind (arith, nat_tests, bit_at_and)

pub among_to : (a b : ℕ) → ((k : ℕ) → (bit_at a k == 1) ≡ true → (bit_at b k == 1) ≡ true) → bit_and a b ≡ a
among_to a b h = same_from_bits (bit_and a b) a (λ k.
    let la = bit_at-lt a k in
    let lb = bit_at-lt b k in
    grind (arith, nat_tests, bit_at_and, h k))

-- all kinds are below 64
pub pair_below : (k : ℕ) (text : List ℕ) → has_pair k text ≡ true → k < 64
pair_below k [] h = cc
pair_below k (a ∷ []) h = cc
pair_below k (a ∷ b ∷ bytes) h = elim (or_cases (k == kind a b) (has_pair k (b ∷ bytes)) h) [
  | inl here ↦ rw (eqb-true k (kind a b) here) (omega arith)
  | inr later ↦ pair_below k (b ∷ bytes) later
]

-- fewer than two bytes have none
pub no_pair_left : (k : ℕ) (text : List ℕ) → length text < 2 → has_pair k text ≡ false
no_pair_left k [] short = refl
no_pair_left k (a ∷ []) short = refl
no_pair_left k (a ∷ b ∷ bytes) short = absurd (omega arith)

-- what an end of a text has, the text has
pair_before : (k : ℕ) (front text : List ℕ) → has_pair k text ≡ true → has_pair k (front ++ text) ≡ true
pair_before k [] text h = h
pair_before k (a ∷ front) text h = or_right (is_pair k a (front ++ text)) (has_pair k (front ++ text)) (pair_before k front text h)

pub pair_in_end : (k n : ℕ) (text : List ℕ) → has_pair k (drop n text) ≡ true → has_pair k text ≡ true
pair_in_end k n text h = rw (take-append-drop n text) at (pair_before k (take n text) (drop n text) h)

-- the case of a letter is not told
same_low : (case : Case) (c b : ℕ) → same_byte case c b ≡ true → b % 32 ≡ c % 32
same_low case c b h = grind (arith, nat_tests)

-- literal bytes that stand together take a pair of their kind
literal_taken : (case : Case) (k first : ℕ) (byte : ℕ) (ts : List Token) (bytes : List ℕ) → same_byte case first byte ≡ true →
    is_literal_pair k first ts ≡ true → Match case ts bytes → is_pair k byte bytes ≡ true
literal_taken case k first byte (lit second ∷ ts) bytes same here matched =
    let taken = matched.3 in
    let low = same_low case first byte same in
    let next = same_low case second taken.0 taken.2 in
    rw (matched.2, taken.1, low, next) here
literal_taken case k first byte ts bytes same here matched = cc

begun_taken : (case : Case) (k : ℕ) (t : Token) (ts : List Token) (part others : List ℕ) → Takes case t part → Match case ts others →
    begins_with_literals k (t ∷ ts) ≡ true → has_pair k (part ++ others) ≡ true
begun_taken case k (lit first) ts part others taken matched here =
    rw taken.1 (or_left (is_pair k taken.0 others) (has_pair k others) (literal_taken case k first taken.0 ts others taken.2 here matched))
begun_taken case k t ts part others taken matched here = cc

-- each pair that tokens need is in what they match
pub pair_needed : (case : Case) (k : ℕ) (ts : List Token) (value : List ℕ) → Match case ts value → needs_pair k ts ≡ true →
    has_pair k value ≡ true
pair_needed case k [] value matched h = cc
pair_needed case k (t ∷ ts) value matched h = rw matched.2 (elim (or_cases (begins_with_literals k (t ∷ ts)) (needs_pair k ts) h) [
  | inl here ↦ begun_taken case k t ts matched.0 matched.1 matched.3 matched.4 here
  | inr later ↦ pair_before k matched.0 matched.1 (pair_needed case k ts matched.1 matched.4 later)
])

-- How many bytes there are from the first `]` on, and what stands between `[:` and `:]`.
use Rattle.std.proofs.Common.{◌≡◌, ◌≢◌, ◌≤◌, ◌+◌, ◌-◌, ◌==◌, ℕ, zero, suc, List, [], ◌∷◌, ◌++◌, length, take, cond, Some, None}
use Rattle.std.proofs.Common.{Bool, true, refl, ap, arith, length-append}
use Rattle.std.specs.List.{position, position_or_len}
use Rattle.std.proofs.lemmas.Bool.Decides.{nat_tests}
use Rattle.std.proofs.lemmas.List.Recursion.{is_position_or_len}
use Rattle.attr_wildmatch.specs.declared.bracket.Member.{Member}
use Rattle.attr_wildmatch.specs.declared.bracket.Member.TheVariants.{Single, Span, Named}
use Rattle.attr_wildmatch.specs.Bytes.{close_bracket, colon}
use Rattle.attr_wildmatch.specs.Brackets.{begins, name_in}
use Rattle.attr_wildmatch.specs.Spelling.{IsMember}
use Rattle.attr_wildmatch.specs.inner.Closing.{from_close}

pub from_close_few : (bs : List ℕ) → from_close bs ≤ length bs
from_close_few [] = omega arith
from_close_few (b ∷ bs) = grind (arith, nat_tests, from_close_few bs)

-- the offset of the first `]`
close_offset : (bs : List ℕ) → length bs - from_close bs ≡ position_or_len (λ b. b == close_bracket) bs
close_offset bs = is_position_or_len (λ (xs : List ℕ). length xs - from_close xs) (λ b. b == close_bracket) refl step bs
  where
    step : (b : ℕ) (xs : List ℕ) → length (b ∷ xs) - from_close (b ∷ xs) ≡ cond (b == close_bracket) 0 (1 + (length xs - from_close xs))
    step b xs = grind (arith, nat_tests, from_close_few xs)

pub position_none : (bs : List ℕ) → position (λ b. b == close_bracket) bs ≡ None → from_close bs ≡ 0
position_none bs h = grind (arith, nat_tests, close_offset bs, from_close_few bs)

pub position_some : (bs : List ℕ) (j : ℕ) → position (λ b. b == close_bracket) bs ≡ Some j → from_close bs + j ≡ length bs
position_some bs j h = grind (arith, nat_tests, close_offset bs, from_close_few bs)

-- what is left of the bytes has the same first `]`, unless that is passed
close-tail : (n b : ℕ) (bs : List ℕ) → (n ≤ length (b ∷ bs) → n ≡ from_close (b ∷ bs)) → n ≤ length bs → n ≡ from_close bs
close-tail n b bs h l = grind (arith, nat_tests)

close-end : (n : ℕ) (front bs : List ℕ) → (n ≤ length (front ++ bs) → n ≡ from_close (front ++ bs)) → n ≤ length bs → n ≡ from_close bs
close-end n [] bs h l = h l
close-end n (b ∷ front) bs h l = close-end n front bs (close-tail n b (front ++ bs) h) l

-- and so does what follows a member
pub close-member : (first : Bool) (b : ℕ) (bs : List ℕ) (m : Member) (mid : List ℕ) → IsMember first (b ∷ bs) m mid → (n : ℕ) →
    n ≡ from_close bs → n ≤ length mid → n ≡ from_close mid
close-member first b bs (Single c) mid h n e l = grind (arith, nat_tests, close-tail)
close-member first b bs (Span c d) mid h n e l = grind (arith, nat_tests, close-tail)
close-member first b bs (Named class) mid h n e l = grind (arith, nat_tests, close-tail, close-end)

-- the name, where no `]` follows, or the bytes up to the first one are none
pub name_in-none : (bs : List ℕ) → from_close bs ≡ 0 → name_in bs ≡ None
name_in-none [] h = refl
name_in-none (b ∷ bs) h = grind (arith, nat_tests, name_in-none bs)

pub name_in-at_once : (bs : List ℕ) → from_close bs ≡ length bs → name_in bs ≡ None
name_in-at_once [] h = refl
name_in-at_once (b ∷ bs) h = grind (arith, nat_tests, from_close_few bs)

closed_at_once : (bs : List ℕ) → begins close_bracket bs ≡ true → from_close bs ≡ length bs
closed_at_once bs h = grind (arith, nat_tests)

closes_at_once : (bs : List ℕ) → from_close bs ≡ length bs → from_close bs ≢ 0 → begins close_bracket bs ≡ true
closes_at_once (b ∷ bs) h s = grind (arith, nat_tests, from_close_few bs)
closes_at_once [] h s = absurd (s refl)

-- or c is the last of them
pub name_in-first : (bs front : List ℕ) (c n : ℕ) → n + from_close bs ≡ length bs → from_close bs ≢ 0 → take n bs ≡ front ++ c ∷ [] →
    name_in bs ≡ cond (c == colon) (Some front) None
name_in-first (b ∷ bs) [] c (suc zero) l s h = grind (arith, nat_tests, from_close_few bs, name_in-at_once bs, closes_at_once bs)
name_in-first (b ∷ bs) (d ∷ front) c (suc zero) l s h = absurd (omega (arith, ap length h, length-append front (c ∷ [])))
name_in-first (b ∷ bs) (d ∷ front) c (suc (suc n)) l s h =
    grind (arith, nat_tests, from_close_few bs, closed_at_once bs, name_in-first bs front c (suc n))
name_in-first bs front c n l s h = grind (arith, nat_tests, from_close_few bs)

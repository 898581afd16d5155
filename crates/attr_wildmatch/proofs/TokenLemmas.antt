-- The tokens of a text, one after the other.
use Rattle.std.proofs.Common.{◌≡◌, ◌≤◌, ℕ, zero, suc, Bool, List, [], ◌∷◌, ◌++◌, length, slice_get, get_or, nat_lt, is_some}
use Rattle.std.proofs.Common.{IfSome, Bor, Option, None, Some, option_map, refl, ap, append_assoc, arith}
use Rattle.std.proofs.lemmas.Bool.Decides.{nat_tests}
use Rattle.std.proofs.lemmas.Option.{slice_get_past, slice_get_read}
use Rattle.attr_wildmatch.specs.declared.token.Token as written
use Rattle.attr_wildmatch.specs.Tokens.{Token, tokens_from, token_at, token_ends_in_slash}
use Rattle.attr_wildmatch.specs.TokenList.{token_of, tokens_of}

-- what was read before, and then what is read here
abbrev pub after : List Token → Option (List Token) → Option (List Token)
after list None = None
after list (Some ts) = Some (list ++ ts)

pub after-nil : (o : Option (List Token)) → o ≡ after [] o
after-nil o = grind (arith, nat_tests)

after-cons : (list : List Token) (t : Token) (o : Option (List Token)) →
    after list (option_map (λ ts. t ∷ ts) o) ≡ after (list ++ t ∷ []) o
after-cons list t o = grind (arith, nat_tests, append_assoc)

pub tokens_more : (list : List Token) (n : ℕ) (border : Bool) (b : ℕ) (bs : List ℕ) (t : Token) (tail : List ℕ) →
    token_at border b bs ≡ Some (t, tail) → suc (length bs) ≤ n → length tail ≤ length bs →
    (k : ℕ) × (length tail ≤ k) × (after list (tokens_from n border (b ∷ bs)) ≡ after (list ++ t ∷ [])
    (tokens_from k (token_ends_in_slash t) tail))
tokens_more list zero border b bs t tail h l r = absurd (omega arith)
tokens_more list (suc n) border b bs t tail h l r = (n, omega arith, rw h (after-cons list t (tokens_from n (token_ends_in_slash t) tail)))

pub tokens_of-push : (ts : List written.Token) (t : written.Token) → tokens_of (ts ++ t ∷ []) ≡ tokens_of ts ++ token_of t ∷ []
tokens_of-push [] t = refl
tokens_of-push (u ∷ ts) t = ap (λ x. token_of u ∷ x) (tokens_of-push ts t)

pub length_of_tokens : (ts : List written.Token) → length (tokens_of ts) ≡ length ts
length_of_tokens [] = refl
length_of_tokens (t ∷ ts) = ap suc (length_of_tokens ts)

pub slice_get_tokens_of : (ts : List written.Token) (k : ℕ) → slice_get (tokens_of ts) k ≡ option_map token_of (slice_get ts k)
slice_get_tokens_of (t ∷ ts) (suc k) = slice_get_tokens_of ts k
slice_get_tokens_of ts k = refl

-- what `get` gives
pub looked_up : (ts : List written.Token) (k : ℕ) (o : Option (Bor written.Token)) → is_some o ≡ nat_lt k (length ts) →
    IfSome o (λ x. x.now ≡ get_or ts k x.now) → option_map (λ t. token_of t.now) o ≡ slice_get (tokens_of ts) k
looked_up ts k o h e = grind (arith, nat_tests, slice_get_tokens_of, slice_get_past, slice_get_read)

-- The first offset at which a stretch fits between two stars is the best one: the later star takes what others would take.
use Rattle.std.proofs.Common.{arith, ◌≡◌, ◌≤◌, ℕ, Bool, true, false, List, [], ◌∷◌, length, Some, None, sym, ap}
use Rattle.std.proofs.lemmas.Bool.Decides.{nat_tests}
use Rattle.std.specs.List.{list_any}
use Rattle.attr_wildmatch.specs.declared.case.Case.{Case}
use Rattle.attr_wildmatch.specs.Slashes.{is_slash}
use Rattle.attr_wildmatch.specs.Tokens.{Token, lit, one, set, star}
use Rattle.attr_wildmatch.specs.Deciding.{byte_then, matches, star_then, takes_byte}
use Rattle.attr_wildmatch.specs.inner.Stretches.{first_left, front_left, or_else}
use Rattle.attr_wildmatch.proofs.Ends.{front_left-none, front_left-some}

-- no byte is a slash
abbrev pub Plain : List ℕ → Type 0
Plain v = list_any is_slash v ≡ false

-- what is taken after a byte further on is taken after the first one too, if a star stands between
star_shift : (p : ℕ → Bool) (f : List ℕ → Bool) (b : ℕ) (bs : List ℕ) → Plain (b ∷ bs) →
    star_then (byte_then p f) (b ∷ bs) ≡ true → star_then f bs ≡ true
star_shift p f b [] h e = grind (arith, nat_tests)
star_shift p f b (c ∷ bs) h e = grind (arith, nat_tests, star_shift p f c bs)

star_twice : (f : List ℕ → Bool) (v : List ℕ) → star_then (star_then f) v ≡ true → star_then f v ≡ true
star_twice f [] e = e
star_twice f (b ∷ bs) e = grind (arith, nat_tests, star_twice f bs)

-- wherever the stretch is found, the star after it takes what lies between
found_later : (case : Case) (ts us : List Token) (v after : List ℕ) → Plain v → front_left case ts v ≡ Some (star ∷ us, after) →
    star_then (matches case ts) v ≡ true → matches case (star ∷ us) after ≡ true
found_later case (lit c ∷ ts) us (b ∷ bs) after h e m =
    grind (arith, nat_tests, star_shift (takes_byte case (lit c)) (matches case ts) b bs h m, found_later case ts us bs after)
found_later case (one ∷ ts) us (b ∷ bs) after h e m =
    grind (arith, nat_tests, star_shift (takes_byte case one) (matches case ts) b bs h m, found_later case ts us bs after)
found_later case (set negated ms ∷ ts) us (b ∷ bs) after h e m =
    grind (arith, nat_tests, star_shift (takes_byte case (set negated ms)) (matches case ts) b bs h m, found_later case ts us bs after)
found_later case ts us v after h e m = grind (arith, nat_tests, star_twice)

-- what follows the stretch has no slash either
plain-after : (case : Case) (ts next : List Token) (v after : List ℕ) → Plain v → front_left case ts v ≡ Some (next, after) → Plain after
plain-after case (t ∷ ts) next (b ∷ bs) after h e = grind (arith, nat_tests, plain-after case ts next bs after)
plain-after case ts next v after h e = grind (arith, nat_tests)

-- a star takes no bytes up to where the tokens after it match, if those of one byte take none
pub star_missed : (case : Case) (ts : List Token) (v : List ℕ) → first_left case ts v ≡ None → matches case (star ∷ ts) v ≡ false
star_missed case ts [] e = grind (arith, nat_tests, front_left-none)
star_missed case ts (b ∷ bs) e = grind (arith, nat_tests, front_left-none, star_missed case ts bs)

-- and the first bytes that they take are the best ones, if a star follows
pub star_found : (case : Case) (ts next us : List Token) (v after : List ℕ) → Plain v → first_left case ts v ≡ Some (next, after) →
    next ≡ star ∷ us → (matches case (star ∷ ts) v ≡ matches case next after) × Plain after × (length next ≤ length ts)
star_found case ts next us [] after h e s = grind (arith, nat_tests, front_left-some case ts [] (next, after) (sym e), plain-after)
star_found case ts next us (b ∷ bs) after h e s =
    let here = front_left-some case ts (b ∷ bs) (next, after) in
    grind (arith, nat_tests, front_left-none, here, plain-after, found_later case ts us (b ∷ bs) after, star_found case ts next us bs after)

-- what the tokens at the front take at once is the first that they take
pub first_here : (case : Case) (ts : List Token) (v : List ℕ) (left : List Token × List ℕ) → Some left ≡ front_left case ts v →
    first_left case ts v ≡ Some left
first_here case ts [] left h = sym h
first_here case ts (b ∷ bs) left h = ap (λ l. or_else l (first_left case ts bs)) (sym h)

-- Which indexes are reached: the first tokens against the first bytes, by recursion on both reversed, so
-- that one more byte and one more token each stand in front.
use Rattle.std.proofs.Common.{arith, ◌≡◌, ℕ, Bool, true, cond, ◌||◌, ◌==◌, inl, inr, List, [], ◌∷◌, ◌++◌, take, reverse, slice_get, refl, sym, ap}
use Rattle.std.proofs.Common.{◌∙◌, append_assoc, append-nil}
use Rattle.std.proofs.lemmas.Bool.Decides.{nat_tests}
use Rattle.std.proofs.lemmas.List.{reverse-append}
use Rattle.std.proofs.lemmas.Bool.{eqb-true, or_cases, or_left, or_right}
use Rattle.attr_wildmatch.specs.declared.case.Case.{Case}
use Rattle.attr_wildmatch.specs.Bytes.{slash}
use Rattle.attr_wildmatch.specs.Tokens.{Token, lit, one, set, star, dirs, rest}
use Rattle.attr_wildmatch.specs.Matching.{Takes, Match}
use Rattle.attr_wildmatch.specs.Deciding.{takes_byte, byte_then, star_then, rest_then, is_nil}
use Rattle.attr_wildmatch.specs.inner.RowIndexes.{is_dirs_at}
use Rattle.attr_wildmatch.proofs.Basics.{each_of_all, all_of_each, Each-reverse, reverse-cons}
use Rattle.attr_wildmatch.proofs.Splits.{NoSlash, Split, byte_split, star_split, star_joined, rest_split, rest_joined, single_takes, single_taken}

-- what the token takes at the end, and before that what f takes; all reversed
abbrev pub back_then : Case → Token → (List ℕ → Bool) → List ℕ → Bool
back_then case (lit c) f v = byte_then (takes_byte case (lit c)) f v
back_then case one f v = byte_then (takes_byte case one) f v
back_then case (set negated ms) f v = byte_then (takes_byte case (set negated ms)) f v
back_then case star f v = star_then f v
back_then case dirs f v = f v || byte_then (λ b. b == slash) (rest_then f) v
back_then case rest f v = rest_then f v

-- the reversed tokens match the reversed value
abbrev pub reached : Case → List Token → List ℕ → Bool
reached case [] v = is_nil v
reached case (t ∷ ts) v = back_then case t (reached case ts) v

-- the first k tokens match the reversed value
abbrev pub fresh : Case → List Token → List ℕ → ℕ → Bool
fresh case ts v k = reached case (reverse (take k ts)) v

-- the same, or token k is a directory star and they match some first part of the value
abbrev pub alive : Case → List Token → List ℕ → ℕ → Bool
alive case ts v k = cond (is_dirs_at (slice_get ts k)) (rest_then (reached case (reverse (take k ts))) v) (fresh case ts v k)

-- What it says: the split relation.

pub match-last : (case : Case) (ts : List Token) (t : Token) (front part : List ℕ) → Match case ts front → Takes case t part →
    Match case (ts ++ t ∷ []) (front ++ part)
match-last case [] t front part m h = (part, [], ap (λ x. x ++ part) m ∙ sym (append-nil part), h, refl)
match-last case (u ∷ ts) t front part m h = grind (arith, nat_tests, append_assoc, match-last case ts t m.1 part m.4 h)

pub record Last (case : Case) (ts : List Token) (t : Token) (v : List ℕ) : Type 0 where
  pub front : List ℕ
  pub part : List ℕ
  pub whole : v ≡ front ++ part
  pub before : Match case ts front
  pub takes : Takes case t part

pub match-unlast : (case : Case) (ts : List Token) (t : Token) (v : List ℕ) → Match case (ts ++ t ∷ []) v → Last case ts t v
match-unlast case [] t v m = grind (arith, nat_tests, append-nil)
match-unlast case (u ∷ ts) t v m =
    let r = match-unlast case ts t m.1 m.4 in
    record {
      front = m.0 ++ r.front;
      part = r.part;
      whole = m.2 ∙ (ap (λ x. m.0 ++ x) r.whole ∙ sym (append_assoc m.0 r.front r.part));
      before = (m.0, r.front, refl, m.3, r.before);
      takes = r.takes;
    }

-- the part, reversed, is taken
abbrev TakesBack : Case → Token → List ℕ → Type 0
TakesBack case t part = Takes case t (reverse part)

single_back : (case : Case) (t : Token) (f : List ℕ → Bool) (v : List ℕ) → byte_then (takes_byte case t) f v ≡ true → Split (TakesBack case t) f v
single_back case t f v h =
    let s = byte_split (takes_byte case t) f v h in
    record { part = s.byte ∷ []; others = s.others; whole = s.whole; holds = single_takes case t s.byte s.passes; taken = s.taken }

back_split : (case : Case) (t : Token) (f : List ℕ → Bool) (v : List ℕ) → back_then case t f v ≡ true → Split (TakesBack case t) f v
back_split case (lit c) f v h = single_back case (lit c) f v h
back_split case one f v h = single_back case one f v h
back_split case (set negated ms) f v h = single_back case (set negated ms) f v h
back_split case star f v h =
    let s = star_split f v h in
    record {
      part = s.part;
      others = s.others;
      whole = s.whole;
      holds = all_of_each NoSlash (reverse s.part) (Each-reverse NoSlash s.part s.holds);
      taken = s.taken;
    }
back_split case dirs f v h = elim (or_cases (f v) (byte_then (λ b. b == slash) (rest_then f) v) h) [
  | inl t ↦ record { part = []; others = v; whole = refl; holds = inl refl; taken = t }
  | inr t ↦
      let s = byte_split (λ b. b == slash) (rest_then f) v t in
      let r = rest_split f s.others s.taken in
      record {
        part = s.byte ∷ r.part;
        others = r.others;
        whole = s.whole ∙ ap (λ x. s.byte ∷ x) r.whole;
        holds = inr (reverse r.part, reverse-cons s.byte r.part ∙ ap (λ x. reverse r.part ++ x ∷ []) (eqb-true s.byte slash s.passes));
        taken = r.taken;
      }
]
back_split case rest f v h = let s = rest_split f v h in record { part = s.part; others = s.others; whole = s.whole; holds = tt; taken = s.taken }

back_joined : (case : Case) (t : Token) (f : List ℕ → Bool) (part others : List ℕ) → Takes case t part → f others ≡ true →
    back_then case t f (reverse part ++ others) ≡ true
back_joined case (lit c) f part others h k = grind (arith, nat_tests, single_taken)
back_joined case one f part others h k = grind (arith, nat_tests, single_taken)
back_joined case (set negated ms) f part others h k = grind (arith, nat_tests, part, single_taken)
back_joined case star f part others h k = star_joined f (reverse part) others (Each-reverse NoSlash part (each_of_all NoSlash part h)) k
back_joined case t f part others h k = grind (arith, nat_tests, or_left, reverse-append, or_right, rest_joined)

pub match_of_reached : (case : Case) (ts : List Token) (v : List ℕ) → reached case ts v ≡ true → Match case (reverse ts) (reverse v)
match_of_reached case [] v h = grind (arith, nat_tests)
match_of_reached case (t ∷ ts) v h =
    grind (arith, nat_tests, back_split case t, match-last case (reverse ts) t, reverse-cons t ts, reverse-append, match_of_reached case ts)

pub reached_of_match : (case : Case) (ts : List Token) (v : List ℕ) → Match case (reverse ts) v → reached case ts (reverse v) ≡ true
reached_of_match case [] v h = ap (λ x. is_nil (reverse x)) h
reached_of_match case (t ∷ ts) v h =
    grind (arith, nat_tests, match-unlast case (reverse ts) t v, reverse-cons t ts, back_joined case t, reverse-append, reached_of_match case ts)

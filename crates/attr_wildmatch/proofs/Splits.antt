-- What each form of a test says of the ways to split a value.
use Rattle.std.proofs.Common.{arith, ◌≡◌, ◌≢◌, ℕ, Bool, true, false, not, ◌&&◌, ◌==◌, inl, inr, List, [], ◌∷◌, ◌++◌, refl, ap}
use Rattle.std.proofs.lemmas.Bool.Decides.{nat_tests}
use Rattle.std.proofs.lemmas.Bool.{and_from, and_parts, eqb-true, or_cases, or_left, or_right}
use Rattle.attr_wildmatch.specs.declared.case.Case.{Case}
use Rattle.attr_wildmatch.specs.Bytes.{slash}
use Rattle.attr_wildmatch.specs.Tokens.{Token, lit, one, set, star, dirs, rest}
use Rattle.attr_wildmatch.specs.Matching.{Takes}
use Rattle.attr_wildmatch.specs.Deciding.{takes_byte, byte_then, star_then, slash_then, rest_then}
use Rattle.attr_wildmatch.proofs.Basics.{Each, differs}

-- the byte is no slash
abbrev pub NoSlash : ℕ → Type 0
NoSlash b = b ≢ slash

-- the value begins with a byte that passes, and f takes what follows
pub record ByteSplit (p : ℕ → Bool) (f : List ℕ → Bool) (v : List ℕ) : Type 0 where
  pub byte : ℕ
  pub others : List ℕ
  pub whole : v ≡ byte ∷ others
  pub passes : p byte ≡ true
  pub taken : f others ≡ true

pub byte_split : (p : ℕ → Bool) (f : List ℕ → Bool) (v : List ℕ) → byte_then p f v ≡ true → ByteSplit p f v
byte_split p f v h = grind (arith, nat_tests, and_parts)

-- the value begins with a part for which P holds, and f takes what follows
pub record Split (P : List ℕ → Type 0) (f : List ℕ → Bool) (v : List ℕ) : Type 0 where
  pub part : List ℕ
  pub others : List ℕ
  pub whole : v ≡ part ++ others
  pub holds : P part
  pub taken : f others ≡ true

pub star_split : (f : List ℕ → Bool) (v : List ℕ) → star_then f v ≡ true → Split (Each NoSlash) f v
star_split f [] h = record { part = []; others = []; whole = refl; holds = tt; taken = h }
star_split f (b ∷ bs) h = elim (or_cases (f (b ∷ bs)) (not (b == slash) && star_then f bs) h) [
  | inl t ↦ record { part = []; others = b ∷ bs; whole = refl; holds = tt; taken = t }
  | inr t ↦
      let w = and_parts (not (b == slash)) (star_then f bs) t in
      let s = star_split f bs w.1 in
      record { part = b ∷ s.part; others = s.others; whole = ap (λ x. b ∷ x) s.whole; holds = (differs b slash w.0, s.holds); taken = s.taken }
]

pub star_joined : (f : List ℕ → Bool) (part others : List ℕ) → Each NoSlash part → f others ≡ true → star_then f (part ++ others) ≡ true
star_joined f [] [] h k = k
star_joined f [] (b ∷ bs) h k = or_left (f (b ∷ bs)) (not (b == slash) && star_then f bs) k
star_joined f (b ∷ part) others h k = grind (arith, nat_tests, or_right, part, others, and_from, star_joined f part others)

pub rest_split : (f : List ℕ → Bool) (v : List ℕ) → rest_then f v ≡ true → Split (λ part. Unit {0}) f v
rest_split f [] h = record { part = []; others = []; whole = refl; holds = tt; taken = h }
rest_split f (b ∷ bs) h = elim (or_cases (f (b ∷ bs)) (rest_then f bs) h) [
  | inl t ↦ record { part = []; others = b ∷ bs; whole = refl; holds = tt; taken = t }
  | inr t ↦
      let s = rest_split f bs t in
      record { part = b ∷ s.part; others = s.others; whole = ap (λ x. b ∷ x) s.whole; holds = tt; taken = s.taken }
]

pub rest_joined : (f : List ℕ → Bool) (part others : List ℕ) → f others ≡ true → rest_then f (part ++ others) ≡ true
rest_joined f [] [] k = k
rest_joined f [] (b ∷ bs) k = or_left (f (b ∷ bs)) (rest_then f bs) k
rest_joined f (b ∷ part) others k = or_right (f (b ∷ (part ++ others))) (rest_then f (part ++ others)) (rest_joined f part others k)

-- the part ends in a slash
abbrev pub EndsInSlash : List ℕ → Type 0
EndsInSlash part = (front : List ℕ) × (part ≡ front ++ slash ∷ [])

pub slash_split : (f : List ℕ → Bool) (v : List ℕ) → slash_then f v ≡ true → Split EndsInSlash f v
slash_split f [] h = cc
slash_split f (b ∷ bs) h = elim (or_cases (b == slash && f bs) (slash_then f bs) h) [
  | inl t ↦
      let w = and_parts (b == slash) (f bs) t in
      record { part = b ∷ []; others = bs; whole = refl; holds = ([], ap (λ x. x ∷ []) (eqb-true b slash w.0)); taken = w.1 }
  | inr t ↦
      let s = slash_split f bs t in
      record {
        part = b ∷ s.part;
        others = s.others;
        whole = ap (λ x. b ∷ x) s.whole;
        holds = (b ∷ s.holds.0, ap (λ x. b ∷ x) s.holds.1);
        taken = s.taken;
      }
]

pub slash_joined : (f : List ℕ → Bool) (front others : List ℕ) → f others ≡ true → slash_then f ((front ++ slash ∷ []) ++ others) ≡ true
slash_joined f [] others k = or_left (slash == slash && f others) (slash_then f others) k
slash_joined f (b ∷ front) others k = grind (arith, nat_tests, or_right, others, slash_joined f front others k)

-- the token takes exactly one byte
abbrev pub is_single : Token → Bool
is_single (lit c) = true
is_single one = true
is_single (set negated ms) = true
is_single star = false
is_single dirs = false
is_single rest = false

pub single_takes : (case : Case) (t : Token) (b : ℕ) → takes_byte case t b ≡ true → Takes case t (b ∷ [])
single_takes case t b h = grind (arith, nat_tests, differs, and_parts)

pub single_taken : (case : Case) (t : Token) (part : List ℕ) → is_single t ≡ true → Takes case t part →
    (b : ℕ) × (part ≡ b ∷ []) × (takes_byte case t b ≡ true)
single_taken case t part s h = grind (arith, nat_tests, and_from)

-- The tokens of a text, read and spelled.
use Rattle.std.proofs.lemmas.Grind.{common_steps}
use Rattle.std.proofs.Common.{◌≡◌, ◌≤◌, ◌<◌, ℕ, zero, suc, Bool, true, false, ◌&&◌, ◌==◌, ◌⊎◌, inl, inr, List, [], ◌∷◌, ◌++◌, length, replicate}
use Rattle.std.proofs.Common.{Some, refl, sym, ap, subst, ◌∙◌, arith, append-nil}
use Rattle.std.proofs.lemmas.Bool.Decides.{nat_tests}
use Rattle.std.proofs.lemmas.Bool.{and_from, and_parts, eq-eqb, eqb-false, eqb-true, ne_eqb, or_left, or_right}
use Rattle.std.proofs.lemmas.Option.{same_Some}
use Rattle.attr_wildmatch.specs.declared.bracket.Member.{Member}
use Rattle.attr_wildmatch.specs.Bytes.{exclamation_mark, asterisk, question_mark, open_bracket, backslash, caret}
use Rattle.attr_wildmatch.specs.Brackets.{negates, begins, members}
use Rattle.attr_wildmatch.specs.Tokens.{Token, lit, one, set, star, dirs, rest, after_stars, directory_at, stars_at, bracket_at, escape_at, token_at}
use Rattle.attr_wildmatch.specs.Tokens.{token_ends_in_slash, tokens_from, tokens}
use Rattle.attr_wildmatch.specs.Spelling.{AreMembers, IsRun, IsToken, AreTokens}
use Rattle.attr_wildmatch.specs.inner.Bordered.{is_bordered}
use Rattle.attr_wildmatch.proofs.Basics.{by_test, by_option, pair_parts, same_pair, true_false}
use Rattle.attr_wildmatch.proofs.SpellMembers.{members_of, members_read, member_shorter}

-- Runs of stars.

-- n stars and then what follows, which is no star
abbrev Run : ℕ → List ℕ → List ℕ → Type 0
Run n others bs = IsRun bs n others

record Stars (bs : List ℕ) : Type 0 where
  count : ℕ
  whole : bs ≡ replicate count asterisk ++ after_stars bs
  some : begins asterisk bs ≡ true → 1 ≤ count
  none : begins asterisk bs ≡ false → count ≡ 0

stars_of : (bs : List ℕ) → Stars bs
stars_of [] = record { count = 0; whole = refl; some = λ e. absurd cc; none = λ e. refl }
stars_of (b ∷ bs) = by_test (b == asterisk)
    (λ t. let s = stars_of bs in record {
      count = suc s.count;
      whole = rw t (ap (λ x. x ∷ bs) (eqb-true b asterisk t) ∙ ap (λ x. asterisk ∷ x) s.whole);
      some = λ e. omega arith;
      none = λ e. absurd (true_false _ t e);
    })
    (λ f. record { count = 0; whole = rw f refl; some = λ e. absurd (true_false _ e f); none = λ e. refl })

no_star_left : (bs more : List ℕ) → after_stars bs ≡ asterisk ∷ more → ⊥
no_star_left [] more e = cc
no_star_left (b ∷ bs) more e = grind (arith, nat_tests, no_star_left bs more)

after_run : (n : ℕ) (others : List ℕ) → ((more : List ℕ) → others ≡ asterisk ∷ more → ⊥) → after_stars (replicate n asterisk ++ others) ≡ others
after_run zero [] h = refl
after_run zero (b ∷ others) h = by_test (b == asterisk) (λ t. absurd (h others (ap (λ x. x ∷ others) (eqb-true b asterisk t)))) (λ f. rw f)
after_run (suc n) others h = after_run n others h

pub stars_spelled : (border : Bool) (bs : List ℕ) → IsToken border (asterisk ∷ bs) (stars_at border bs).0 (stars_at border bs).1
stars_spelled border bs = by_test (border && begins asterisk bs)
    (λ t. let w = and_parts border (begins asterisk bs) t in rw t (directory (stars_of bs) w.0 w.1 (after_stars bs) refl))
    (λ f. rw f (let s = stars_of bs in grind (arith, nat_tests, true_false, and_from, long_begins, no_star_left bs)))
  where
    long_begins : (s : Stars bs) → 1 ≤ s.count → begins asterisk bs ≡ true
    long_begins s l = by_test (begins asterisk bs) (λ t. t) (λ f. absurd (let e : s.count ≡ 0 = s.none f in omega arith))

    positive : (n : ℕ) → 1 ≤ n → (m : ℕ) × (n ≡ suc m)
    positive zero l = absurd (omega arith)
    positive (suc m) l = (m, refl)

    directory : Stars bs → border ≡ true → begins asterisk bs ≡ true → (after : List ℕ) → after_stars bs ≡ after → IsToken border (asterisk ∷ bs)
        (directory_at after).0 (directory_at after).1
    directory s b g after e = grind (arith, nat_tests, positive, replicate, append-nil, by_test, eqb-true, eqb-false, no_star_left bs)

-- Brackets and single tokens.

negates_of : (b : ℕ) → negates b ≡ true → (b ≡ exclamation_mark) ⊎ (b ≡ caret)
negates_of b h = grind (arith, nat_tests)

negates_so : (b : ℕ) → (b ≡ exclamation_mark) ⊎ (b ≡ caret) → negates b ≡ true
negates_so b h = grind (arith, nat_tests, or_left, eq-eqb, or_right)

bracket_spelled : (border : Bool) (bs : List ℕ) (t : Token) (others : List ℕ) → bracket_at bs ≡ Some (t, others) → IsToken border (open_bracket ∷ bs)
    t others
bracket_spelled border [] t others h = cc
bracket_spelled border (b ∷ bs) t others h = by_test (negates b)
    (λ n. by_option (members (length bs) true bs)
    (λ j. let e = rw (n, j) at h in cc)
    (λ q j. same_pair (IsToken border (open_bracket ∷ b ∷ bs)) (set true q.0, q.1) t others (rw (n, j) at h)
    (b, bs, refl, negates_of b n, members_of (length bs) true bs q.0 q.1 j)))
    (λ n. by_option (members (length (b ∷ bs)) true (b ∷ bs))
    (λ j. let e = rw (n, j) at h in cc)
    (λ q j. same_pair (IsToken border (open_bracket ∷ b ∷ bs)) (set false q.0, q.1) t others (rw (n, j) at h) (
      b,
      bs,
      refl,
      (λ k. true_false _ (negates_so b (inl k)) n),
      (λ k. true_false _ (negates_so b (inr k)) n),
      members_of (length (b ∷ bs)) true (b ∷ bs) q.0 q.1 j,
    )))

pub token_spelled : (border : Bool) (b : ℕ) (bs : List ℕ) (t : Token) (others : List ℕ) → token_at border b bs ≡ Some (t, others) → IsToken border
    (b ∷ bs) t others
token_spelled border b bs t others h =
    by_test (b == question_mark)
    (λ y. same_pair (IsToken border (b ∷ bs)) (one, bs) t others (rw y at h) (ap (λ x. x ∷ bs) (eqb-true b question_mark y)))
    (λ n1. let h1 = rw n1 at h in by_test (b == backslash)
    (λ y. escape bs (rw y at h1) (eqb-true b backslash y))
    (λ n2. let h2 = rw n2 at h1 in by_test (b == open_bracket)
    (λ y. subst (λ x. IsToken border (x ∷ bs) t others) (sym (eqb-true b open_bracket y)) (bracket_spelled border bs t others (rw y at h2)))
    (λ n3. let h3 = rw n3 at h2 in by_test (b == asterisk)
    (λ y. same_pair (IsToken border (b ∷ bs)) (stars_at border bs) t others (rw y at h3)
    (subst (λ x. IsToken border (x ∷ bs) (stars_at border bs).0 (stars_at border bs).1) (sym (eqb-true b asterisk y)) (stars_spelled border bs)))
    (λ n4. let h4 = rw n4 at h3 in grind (arith, nat_tests, same_pair (IsToken border (b ∷ bs)) (lit b, bs) t others, eqb-false)))))
  where
    escape : (bs : List ℕ) → escape_at bs ≡ Some (t, others) → b ≡ backslash → IsToken border (b ∷ bs) t others
    escape bs e q = grind (arith, nat_tests, pair_parts)

-- the text begins with a byte at which the token is read
pub record ReadsToken (border : Bool) (text : List ℕ) (t : Token) (others : List ℕ) : Type 0 where
  pub byte : ℕ
  pub tail : List ℕ
  pub whole : text ≡ byte ∷ tail
  pub read : token_at border byte tail ≡ Some (t, others)

pub token_read : (border : Bool) (text : List ℕ) (t : Token) (others : List ℕ) → IsToken border text t others → ReadsToken border text t others
token_read border text (lit c) others (inl h) = record { byte = backslash; tail = c ∷ others; whole = h; read = refl }
token_read border text (lit c) others (inr h) = grind (arith, nat_tests)
token_read border text one others h = record { byte = question_mark; tail = others; whole = h; read = refl }
token_read border text (set true ms) others h = grind (arith, nat_tests, negates_so, members_read)
token_read border text (set false ms) others h = grind (arith, nat_tests, members_read (length (h.0 ∷ h.1)) true (h.0 ∷ h.1) ms others, ne_eqb)
token_read border text star others h = grind (arith, nat_tests, replicate, by_test, and_parts, after_run, ne_eqb)
token_read border text dirs others h = grind (arith, nat_tests, replicate, after_run, eqb-false)
token_read border text rest others h = record {
  byte = asterisk;
  tail = asterisk ∷ replicate h.0 asterisk;
  whole = h.2;
  read = rw (h.1, ends h.0) (ap (λ x. Some (rest, x)) (sym h.3));
}
  where
    ends : (n : ℕ) → after_stars (replicate n asterisk) ≡ []
    ends zero = refl
    ends (suc n) = ends n

members_shorter : (first : Bool) (text : List ℕ) (ms : List Member) (others : List ℕ) → AreMembers first text ms others → length others < length text
members_shorter first text [] others h = let e : length text ≡ suc (length others) = ap length h.1 in omega arith
members_shorter first text (m ∷ ms) others h = grind (arith, nat_tests, member_shorter, members_shorter false h.0 ms others h.2)

token_shorter : (border : Bool) (text : List ℕ) (t : Token) (others : List ℕ) → IsToken border text t others → length others < length text
token_shorter border text t others h = grind (arith, common_steps, nat_tests, members_shorter)

-- Lists of tokens.

pub tokens_spelled : (n : ℕ) (border : Bool) (text : List ℕ) (ts : List Token) → tokens_from n border text ≡ Some ts → AreTokens border text ts
tokens_spelled (suc n) border (b ∷ bs) ts h = by_option (token_at border b bs)
    (λ k. let e = rw k at h in cc)
    (λ p k. by_option (tokens_from n (token_ends_in_slash p.0) p.1)
    (λ j. let e = rw (k, j) at h in cc)
    (λ q j.
    let e = rw (k, j) at h in
    let same : p.0 ∷ q ≡ ts = cc in
    subst (AreTokens border (b ∷ bs)) same (p.1, token_spelled border b bs p.0 p.1 k, tokens_spelled n (token_ends_in_slash p.0) p.1 q j)))
tokens_spelled n border text ts h = grind (arith, nat_tests)

pub tokens_read : (n : ℕ) (border : Bool) (text : List ℕ) (ts : List Token) → length text ≤ n → AreTokens border text ts → tokens_from n border text ≡
    Some ts
tokens_read n border text [] l h = ap (tokens_from n border) h
tokens_read zero border text (t ∷ ts) l h = let s = token_shorter border text t h.0 h.1 in absurd (omega arith)
tokens_read (suc n) border text (t ∷ ts) l h =
    let r = token_read border text t h.0 h.1 in
    let s = token_shorter border text t h.0 h.1 in
    let later = tokens_read n (token_ends_in_slash t) h.0 ts (omega arith) h.2 in
    rw (r.whole, r.read, later)

-- the text's tokens are those that it spells
pub spelled : (text : List ℕ) (ts : List Token) → tokens text ≡ Some ts → AreTokens true text ts
spelled text ts h = tokens_spelled (length text) true text ts h

pub read_back : (text : List ℕ) (ts : List Token) → AreTokens true text ts → tokens text ≡ Some ts
read_back text ts h = tokens_read (length text) true text ts (omega arith) h

-- a text spells only one list of tokens
pub only_spelled : (text : List ℕ) (ts us : List Token) → tokens text ≡ Some ts → AreTokens true text us → ts ≡ us
only_spelled text ts us is are = same_Some ts us (sym is ∙ read_back text us are)

-- a directory star is spelled only where git has one
bordered_spelled : (border : Bool) (text : List ℕ) (ts : List Token) → AreTokens border text ts → is_bordered border ts ≡ true
bordered_spelled border text [] h = refl
bordered_spelled border text (t ∷ ts) h = grind (arith, nat_tests, and_from, bordered_spelled (token_ends_in_slash t) h.0 ts)

pub bordered : (text : List ℕ) (ts : List Token) → tokens text ≡ Some ts → is_bordered true ts ≡ true
bordered text ts h = bordered_spelled true text ts (spelled text ts h)

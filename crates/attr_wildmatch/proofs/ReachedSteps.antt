-- What one more byte makes of the indexes that are reached.
use Rattle.std.proofs.Common.{arith, ◌≡◌, ◌+◌, ℕ, suc, Bool, true, false, cond, List, [], ◌∷◌, ◌++◌, take, reverse, slice_get}
use Rattle.std.proofs.Common.{Option, Some, None, refl, ap, ◌∙◌, add-one}
use Rattle.std.proofs.lemmas.Bool.Decides.{nat_tests}
use Rattle.std.proofs.lemmas.List.{reverse-append}
use Rattle.std.proofs.lemmas.Bool.{and_parts, or_left}
use Rattle.attr_wildmatch.specs.declared.case.Case.{Case}
use Rattle.attr_wildmatch.specs.Tokens.{Token, dirs, token_ends_in_slash}
use Rattle.attr_wildmatch.specs.inner.Bordered.{is_bordered}
use Rattle.attr_wildmatch.specs.Deciding.{rest_then}
use Rattle.attr_wildmatch.specs.inner.RowIndexes.{may_be_nothing, may_skip, is_dirs_at, IsGrowing}
use Rattle.attr_wildmatch.proofs.Basics.{by_test, true_false}
use Rattle.attr_wildmatch.proofs.Splits.{rest_joined, star_joined}
use Rattle.attr_wildmatch.proofs.Reached.{reached, back_then, fresh, alive}

take-next : (ts : List Token) (k : ℕ) (t : Token) → slice_get ts k ≡ Some t → take (suc k) ts ≡ take k ts ++ t ∷ []
take-next (u ∷ ts) (suc k) t h = ap (λ x. u ∷ x) (take-next ts k t h)
take-next ts k t h = grind (arith, nat_tests)

-- the test of the tokens before index k
abbrev pub before_index : Case → List Token → ℕ → List ℕ → Bool
before_index case ts k = reached case (reverse (take k ts))

pub fresh-next : (case : Case) (ts : List Token) (v : List ℕ) (k : ℕ) (t : Token) → slice_get ts k ≡ Some t →
    fresh case ts v (k + 1) ≡ back_then case t (before_index case ts k) v
fresh-next case ts v k t h =
    ap (λ x. reached case x v) (ap reverse (ap (λ x. take x ts) (add-one k) ∙ take-next ts k t h) ∙ reverse-append (take k ts) (t ∷ []))

pub alive-directory : (case : Case) (ts : List Token) (v : List ℕ) (k : ℕ) → is_dirs_at (slice_get ts k) ≡ true →
    alive case ts v k ≡ rest_then (before_index case ts k) v
alive-directory case ts v k h = ap (λ x. cond x (rest_then (before_index case ts k) v) (fresh case ts v k)) h

pub alive-plain : (case : Case) (ts : List Token) (v : List ℕ) (k : ℕ) → is_dirs_at (slice_get ts k) ≡ false → alive case ts v k ≡ fresh case ts v k
alive-plain case ts v k h = ap (λ x. cond x (rest_then (before_index case ts k) v) (fresh case ts v k)) h

skip_back : (case : Case) (t : Token) (f : List ℕ → Bool) (v : List ℕ) → may_be_nothing t ≡ true → f v ≡ true → back_then case t f v ≡ true
skip_back case t f v h k = grind (arith, nat_tests, star_joined f [] v tt k, or_left, rest_joined f [] v k)

pub growing : (case : Case) (ts : List Token) (v : List ℕ) → IsGrowing ts (fresh case ts v) (alive case ts v)
growing case ts v = record {
  living = λ k h.
      let joined = rest_joined (before_index case ts k) [] v h in
      by_test (is_dirs_at (slice_get ts k)) (λ d. alive-directory case ts v k d ∙ joined) (λ d. alive-plain case ts v k d ∙ h);
  skip = λ k s h. skipped (slice_get ts k) k refl s h;
}
  where
    skipped : (o : Option Token) (k : ℕ) → slice_get ts k ≡ o → may_skip o ≡ true → fresh case ts v k ≡ true → fresh case ts v (k + 1) ≡ true
    skipped None k e s h = cc
    skipped (Some t) k e s h = fresh-next case ts v k t e ∙ skip_back case t (before_index case ts k) v s h

plain_head : (border : Bool) (ts : List Token) → is_bordered border ts ≡ true → border ≡ false → is_dirs_at (slice_get ts 0) ≡ false
plain_head border (dirs ∷ ts) h e = absurd (true_false border (and_parts border (is_bordered true ts) h).0 e)
plain_head border ts h e = refl

-- after a star or a rest stands no directory star
pub no_directory_behind : (border : Bool) (ts : List Token) (k : ℕ) (t : Token) → is_bordered border ts ≡ true → slice_get ts k ≡ Some t →
    token_ends_in_slash t ≡ false → is_dirs_at (slice_get ts (suc k)) ≡ false
no_directory_behind border (dirs ∷ ts) (suc k) t h e n = no_directory_behind true ts k t (and_parts border (is_bordered true ts) h).1 e n
no_directory_behind border (u ∷ ts) (suc k) t h e n = no_directory_behind (token_ends_in_slash u) ts k t h e n
no_directory_behind border ts k t h e n = grind (arith, nat_tests, true_false, plain_head)

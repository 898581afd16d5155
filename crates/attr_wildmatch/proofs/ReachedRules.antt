-- The rules of a step hold for the indexes that are reached.
use Rattle.std.proofs.Common.{◌≡◌, ◌<◌, ◌+◌, ℕ, suc, Bool, true, false, cond, ◌⊎◌, inl, inr, List, [], ◌∷◌, length, slice_get}
use Rattle.std.proofs.Common.{Option, Some, None, sym, ap, subst, ◌∙◌, arith, add-one}
use Rattle.std.proofs.lemmas.Bool.Decides.{nat_tests}
use Rattle.std.proofs.lemmas.Bool.{and_from, and_parts, or_cases, or_right}
use Rattle.std.proofs.lemmas.Option.{slice_get-get_or}
use Rattle.attr_wildmatch.specs.declared.case.Case.{Case}
use Rattle.attr_wildmatch.specs.Tokens.{Token, star, rest}
use Rattle.attr_wildmatch.specs.inner.Bordered.{is_bordered}
use Rattle.attr_wildmatch.specs.Deciding.{rest_then}
use Rattle.attr_wildmatch.specs.inner.RowIndexes.{may_be_nothing, is_dirs, continues_with, ends_at, may_skip, is_dirs_at, stays_on, advances_on}
use Rattle.attr_wildmatch.specs.inner.RowIndexes.{token_before, IsStep}
use Rattle.attr_wildmatch.proofs.Basics.{by_option, by_test}
use Rattle.attr_wildmatch.proofs.Reached.{back_then, fresh, alive}
use Rattle.attr_wildmatch.proofs.ReachedSteps.{before_index, fresh-next, alive-directory, alive-plain, growing, no_directory_behind}

-- the token takes any number of bytes and its index is after it
abbrev is_wide : Token → Bool
is_wide star = true
is_wide rest = true
is_wide _ = false

goes_wide : (t : Token) (b : ℕ) → continues_with t b ≡ true → is_wide t ≡ true
goes_wide t b h = grind (arith, nat_tests)

-- over a byte a star or a rest keeps what it had taken
stay_back : (case : Case) (t : Token) (f : List ℕ → Bool) (b : ℕ) (w : List ℕ) → continues_with t b ≡ true → back_then case t f w ≡ true → back_then
    case t f (b ∷ w) ≡ true
stay_back case t f b w h k = grind (arith, nat_tests, or_right, and_from)

-- a byte leads on from where the token stood
advance_back : (case : Case) (t : Token) (f : List ℕ → Bool) (b : ℕ) (w : List ℕ) → ends_at case t b ≡ true →
    cond (is_dirs t) (rest_then f w) (f w) ≡ true → back_then case t f (b ∷ w) ≡ true
advance_back case t f b w h k = grind (arith, nat_tests, and_from, or_right)

-- how a token came to take what ends with the byte
abbrev BackFrom : Case → Token → (List ℕ → Bool) → ℕ → List ℕ → Type 0
BackFrom case t f b w =
    ((continues_with t b ≡ true) × (back_then case t f w ≡ true)) ⊎
    (((ends_at case t b ≡ true) × (cond (is_dirs t) (rest_then f w) (f w) ≡ true)) ⊎
    ((may_be_nothing t ≡ true) × (f (b ∷ w) ≡ true)))

back_from : (case : Case) (t : Token) (f : List ℕ → Bool) (b : ℕ) (w : List ℕ) → back_then case t f (b ∷ w) ≡ true → BackFrom case t f b w
back_from case t f b w h = grind (arith, nat_tests, and_parts, or_cases)

alive-token : (case : Case) (ts : List Token) (v : List ℕ) (k : ℕ) (t : Token) → slice_get ts k ≡ Some t →
    alive case ts v k ≡ cond (is_dirs t) (rest_then (before_index case ts k) v) (before_index case ts k v)
alive-token case ts v k t h = ap (λ x. cond (is_dirs_at x) (rest_then (before_index case ts k) v) (fresh case ts v k)) h

-- an index after a star or a rest is alive only where it is fresh
alive-tail : (case : Case) (ts : List Token) (v : List ℕ) (k : ℕ) (t : Token) → is_bordered true ts ≡ true → slice_get ts k ≡ Some t →
    is_wide t ≡ true → alive case ts v (k + 1) ≡ back_then case t (before_index case ts k) v
alive-tail case ts v k t h e n = grind (arith, nat_tests, alive-plain, add-one, no_directory_behind, fresh-next)

token_before-next : (ts : List Token) (k : ℕ) (t : Token) → slice_get ts k ≡ Some t → token_before ts (k + 1) ≡ Some t
token_before-next ts k t e = ap (token_before ts) (add-one k) ∙ e

module _ (case : Case) (ts : List Token) (b : ℕ) (w : List ℕ) (bordered : is_bordered true ts ≡ true) where
  stay_at : (o : Option Token) (k : ℕ) → token_before ts k ≡ o → stays_on o b ≡ true → alive case ts w k ≡ true → fresh case ts (b ∷ w) k ≡ true
  stay_at (Some t) (suc k) e h a =
      let n = goes_wide t b h in
      subst (λ x. fresh case ts (b ∷ w) x ≡ true) (add-one k)
      (fresh-next case ts (b ∷ w) k t e ∙
      stay_back case t (before_index case ts k) b w h
      (sym (alive-tail case ts w k t bordered e n) ∙ subst (λ x. alive case ts w x ≡ true) (sym (add-one k)) a))
  stay_at o k e h a = cc

  advance_at : (o : Option Token) (k : ℕ) → slice_get ts k ≡ o → advances_on case o b ≡ true → alive case ts w k ≡ true →
      fresh case ts (b ∷ w) (k + 1) ≡ true
  advance_at None k e h a = cc
  advance_at (Some t) k e h a =
      fresh-next case ts (b ∷ w) k t e ∙ advance_back case t (before_index case ts k) b w h (sym (alive-token case ts w k t e) ∙ a)

  alive_from_at : (k : ℕ) → alive case ts (b ∷ w) k ≡ true →
      (fresh case ts (b ∷ w) k ≡ true) ⊎ ((is_dirs_at (slice_get ts k) ≡ true) × (alive case ts w k ≡ true))
  alive_from_at k a = grind (arith, nat_tests, or_cases, before_index, alive-directory, alive-plain)

  fresh_from_at : (o : Option Token) (k : ℕ) → slice_get ts k ≡ o → k < length ts → fresh case ts (b ∷ w) (k + 1) ≡ true →
      ((stays_on (token_before ts (k + 1)) b ≡ true) × (alive case ts w (k + 1) ≡ true)) ⊎
      (((advances_on case (slice_get ts k) b ≡ true) × (alive case ts w k ≡ true)) ⊎
      ((may_skip (slice_get ts k) ≡ true) × (fresh case ts (b ∷ w) k ≡ true)))
  fresh_from_at None k e l h = let f = slice_get-get_or ts k star l in cc
  fresh_from_at (Some t) k e l h = elim (back_from case t (before_index case ts k) b w (sym (fresh-next case ts (b ∷ w) k t e) ∙ h)) [
    | inl s ↦ inl (
      subst (λ x. stays_on x b ≡ true) (sym (token_before-next ts k t e)) s.0,
      alive-tail case ts w k t bordered e (goes_wide t b s.0) ∙ s.1,
    )
    | inr s ↦ inr (elim s [
      | inl r ↦ inl (subst (λ x. advances_on case x b ≡ true) (sym e) r.0, alive-token case ts w k t e ∙ r.1)
      | inr r ↦ inr (subst (λ x. may_skip x ≡ true) (sym e) r.0, r.1)
    ])
  ]

  pub steps : IsStep case ts b (fresh case ts (b ∷ w)) (alive case ts (b ∷ w)) (alive case ts w)
  steps = grind (arith, nat_tests, growing, alive-directory, or_right, before_index, stay_at, advance_at, alive_from_at, fresh_from_at)

back_from_nil : (case : Case) (t : Token) (f : List ℕ → Bool) → back_then case t f [] ≡ true → (may_be_nothing t ≡ true) × (f [] ≡ true)
back_from_nil case t f h = grind (arith, nat_tests, or_cases)

-- at the start only tokens that may take nothing lead on
pub starts : (case : Case) (ts : List Token) (k : ℕ) → k < length ts → fresh case ts [] (k + 1) ≡ true →
    (may_skip (slice_get ts k) ≡ true) × (fresh case ts [] k ≡ true)
starts case ts k l h = by_option (slice_get ts k) (λ e. let f = slice_get-get_or ts k star l in cc) (λ t e.
    let fact = back_from_nil case t (before_index case ts k) (sym (fresh-next case ts [] k t e) ∙ h) in
    grind (arith, nat_tests, fact, before_index case ts k))

pub alive-nil : (case : Case) (ts : List Token) (k : ℕ) → alive case ts [] k ≡ fresh case ts [] k
alive-nil case ts k = by_test (is_dirs_at (slice_get ts k)) (alive-directory case ts [] k) (alive-plain case ts [] k)

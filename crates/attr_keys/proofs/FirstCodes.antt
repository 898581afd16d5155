-- Keys whose first codes are compared before their texts.
use Rattle.std.proofs.Common.{◌≡◌, ◌≢◌, Option, ℕ, Bool, true, false, List, [], ◌∷◌, get_or, refl, ap, ◌∙◌, arith, nat_eq}
use Rattle.std.specs.List.{starts_with}
use Rattle.std.proofs.lemmas.Bool.Decides.{nat_tests}
use Rattle.attr_keys.specs.shared.KeyContents.{KeyContent}
use Rattle.attr_keys.specs.shared.Codes.{codes_of, key_codes}

-- only an empty key has no first code, and it is had
pub first_none : (text : List ℕ) (key : Option KeyContent) → get_or (key_codes key) 0 0 ≡ 0 → starts_with nat_eq text (key_codes key) ≡ true
first_none text key none = ap (starts_with nat_eq text) (no_codes key none) ∙ begins text
  where
    codes : (bytes : List ℕ) (whole : Bool) → get_or (codes_of false bytes whole) 0 0 ≡ 0 → codes_of false bytes whole ≡ []
    codes [] false e = refl
    codes [] true e = absurd (omega (arith, e))
    codes (b ∷ bs) whole e = absurd (omega (arith, e))

    no_codes : (k : Option KeyContent) → get_or (key_codes k) 0 0 ≡ 0 → key_codes k ≡ []
    no_codes k e = grind (arith, nat_tests, codes)

    begins : (t : List ℕ) → starts_with nat_eq t [] ≡ true
    begins t = grind (arith, nat_tests)

-- a key with another first code than the text isn't had, unless it is empty
pub first_apart : (text codes : List ℕ) → get_or codes 0 0 ≢ 0 → get_or codes 0 0 ≢ get_or text 0 0 → starts_with nat_eq text codes ≡ false
first_apart text [] some apart = absurd (some refl)
first_apart [] (c ∷ codes) some apart = refl
first_apart (t ∷ text) (c ∷ codes) some apart = grind (arith, nat_tests)

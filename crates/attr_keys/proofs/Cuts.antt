-- Parts of texts that are cut from them, and texts that begin with others.
use Rattle.std.proofs.Common.{◌≡◌, ◌≢◌, ℕ, zero, suc, ◌+◌, ◌<◌, ◌≤◌, ◌⊎◌, Bool, true, false, List, [], ◌∷◌, length, take, drop, refl, sym, ap, ◌∙◌}
use Rattle.std.proofs.Common.{arith, nat_eq, get_or}
use Rattle.std.specs.Cmp.Lexicographic.{pointwise, bytes_decides, slice_cmp}
use Rattle.std.specs.List.{starts_with}
use Rattle.std.specs.Ordering.{nat_cmp}
use Rattle.std.proofs.lemmas.Bool.Decides.{nat_tests}
use Rattle.std.proofs.lemmas.List.{length-take-le, take-map}
use Rattle.attr_keys.specs.inner.Cases.{in_case}
use Rattle.attr_keys.specs.shared.Codes.{codes_of}
use Rattle.attr_keys.specs.shared.Meeting.{directed}
use Rattle.attr_keys.specs.shared.Rows.{IsCommon}
use Rattle.attr_keys.proofs.RowLemmas.{by_test}
use Rattle.attr_keys.proofs.SeenTexts.{codes_in_case, directed_in_case, directed_twice, length-seen}

take_in_case : (fold : Bool) (n : ℕ) (text : List ℕ) → take n (in_case fold text) ≡ in_case fold (take n text)
take_in_case fold n text = grind (arith, nat_tests, take-map)

directed_same : (from_end : Bool) (x y : List ℕ) → directed from_end x ≡ directed from_end y → x ≡ y
directed_same from_end x y e = sym (directed_twice from_end x) ∙ (ap (directed from_end) e ∙ directed_twice from_end y)

-- a text begins with a part just if what is cut from it is the part, as they are read
pub begins_if_cut : (fold from_end : Bool) (text part own : List ℕ) → directed from_end own ≡ take (length part) (directed from_end text) →
    (b : Bool) → (b ≡ true → in_case fold own ≡ in_case fold part) → (in_case fold own ≡ in_case fold part → b ≡ true) →
    b ≡ starts_with nat_eq (in_case fold (directed from_end text)) (in_case fold (directed from_end part))
begins_if_cut fold from_end text part own cut b so back =
    decide b so back
    ∙ sym (ap (λ n. pointwise nat_eq part' (take n (in_case fold (directed from_end text)))) (length-seen fold from_end part)
    ∙ ap (pointwise nat_eq part') (take_in_case fold (length part) (directed from_end text) ∙ ap (in_case fold) (sym cut)))
  where
    part' : List ℕ
    part' = in_case fold (directed from_end part)

    own' : List ℕ
    own' = in_case fold (directed from_end own)

    same : in_case fold own ≡ in_case fold part → part' ≡ own'
    same e = sym (directed_in_case from_end fold part) ∙ (ap (directed from_end) (sym e) ∙ directed_in_case from_end fold own)

    decide : (r : Bool) → (r ≡ true → in_case fold own ≡ in_case fold part) → (in_case fold own ≡ in_case fold part → r ≡ true) → r
        ≡ pointwise nat_eq part' own'
    decide true so back = sym ((bytes_decides part' own').1 (same (so refl)))
    decide false so back =
        by_test (pointwise nat_eq part' own')
        (λ t.
        let e = (bytes_decides part' own').0 t in
        back (directed_same from_end (in_case fold own) (in_case fold part)
        (directed_in_case from_end fold own ∙ (sym e ∙ sym (directed_in_case from_end fold part)))) ∙ sym t)
        (λ f. sym f)

-- codes that begin with others are those of texts that begin with others
pub begin_below : (x y : List ℕ) (w v : Bool) → starts_with nat_eq (codes_of false x w) (codes_of false y v) ≡ true → starts_with nat_eq x y ≡ true
begin_below x [] w v h = refl
begin_below [] (c ∷ cs) true v h = grind (arith, nat_tests)
begin_below [] (c ∷ cs) false v h = absurd cc
begin_below (b ∷ bs) (c ∷ cs) w v h = grind (arith, nat_tests, begin_below bs cs w v)

-- codes don't begin with others if the texts don't
pub none_begins : (fold from_end : Bool) (text part : List ℕ) (w v : Bool) (cs ds : List ℕ) → codes_of fold (directed from_end text) w ≡ cs →
    codes_of fold (directed from_end part) v ≡ ds →
    (starts_with nat_eq (in_case fold (directed from_end text)) (in_case fold (directed from_end part)) ≡ true → ⊥) → starts_with nat_eq cs ds ≡ false
none_begins fold from_end text part w v cs ds first second none =
    by_test (starts_with nat_eq cs ds)
    (λ t. absurd (none (begin_below (in_case fold (directed from_end text)) (in_case fold (directed from_end part)) w v
    (ap (λ l. starts_with nat_eq l (codes_of false (in_case fold (directed from_end part)) v)) (codes_in_case fold (directed from_end text) w ∙ first)
    ∙ (ap (starts_with nat_eq cs) (codes_in_case fold (directed from_end part) v ∙ second) ∙ t)))))
    (λ f. f)

-- texts of which one has ended
pub ends_order : (n : ℕ) (x y : List ℕ) → n ≤ length x → n ≤ length y → (n ≡ length x) ⊎ (n ≡ length y) →
    slice_cmp nat_cmp (drop n x) (drop n y) ≡ nat_cmp (length x) (length y)
ends_order zero [] [] le le' end = refl
ends_order zero [] (b ∷ ys) le le' end = grind (arith, nat_tests)
ends_order zero (a ∷ xs) [] le le' end = grind (arith, nat_tests)
ends_order zero (a ∷ xs) (b ∷ ys) le le' end = absurd (grind arith)
ends_order (suc n) [] y le le' end = absurd (omega arith)
ends_order (suc n) (a ∷ xs) [] le le' end = absurd (omega arith)
ends_order (suc n) (a ∷ xs) (b ∷ ys) le le' end = grind (arith, nat_tests, ends_order n xs ys)

-- the first code of a text
pub first_is : (fold : Bool) (text : List ℕ) (w : Bool) → 0 < length text →
    get_or (in_case fold text) 0 0 + 2 ≡ get_or (codes_of fold text w) 0 0
first_is fold [] w some = absurd (omega arith)
first_is fold text w some = grind (arith, nat_tests)

-- a text and a key of which it doesn't have, after what they have in common
common_codes : (text part : List ℕ) (w : Bool) (n : ℕ) → n ≤ length text → n ≤ length part → take n text ≡ take n part →
    (n < length text → n < length part → get_or text n 0 ≢ get_or part n 0) →
    starts_with nat_eq (codes_of false text true) (codes_of false part w) ≡ false →
    get_or (codes_of false text true) n 0 ≢ get_or (codes_of false part w) n 0
common_codes [] [] true zero le le' same apart lacks e = absurd cc
common_codes [] [] false zero le le' same apart lacks e = absurd cc
common_codes [] (p ∷ ps) w zero le le' same apart lacks e = absurd (omega (arith, e))
common_codes (t ∷ ts) [] true zero le le' same apart lacks e = absurd (omega (arith, e))
common_codes (t ∷ ts) [] false zero le le' same apart lacks e = absurd (omega (arith, e))
common_codes (t ∷ ts) (p ∷ ps) w zero le le' same apart lacks e = absurd (apart (omega arith) (omega arith) (omega (arith, e)))
common_codes [] part w (suc n) le le' same apart lacks e = absurd (omega (arith, le))
common_codes (t ∷ ts) [] w (suc n) le le' same apart lacks e = absurd (omega (arith, le'))
common_codes (t ∷ ts) (p ∷ ps) w (suc n) le le' same apart lacks e = grind (arith, nat_tests, common_codes ts ps w n)

-- what is cut from a text is what it has in common with a key, as they are read
pub common_is : (fold from_end : Bool) (text part own : List ℕ) (w : Bool) (codes : List ℕ) (n : ℕ) →
    codes_of fold (directed from_end part) w ≡ codes → n ≤ length text → n ≤ length part →
    take n (in_case fold (directed from_end text)) ≡ take n (in_case fold (directed from_end part)) →
    (n < length text → n < length part → get_or (in_case fold (directed from_end text)) n 0 ≢ get_or (in_case fold (directed from_end part)) n 0) →
    starts_with nat_eq (codes_of false (in_case fold (directed from_end text)) true) codes ≡ false →
    directed from_end own ≡ take n (directed from_end text) →
    IsCommon (in_case fold (directed from_end text)) codes (in_case fold (directed from_end own))
common_is fold from_end text part own w codes n is le le' same apart lacks cut =
    let plain = codes_in_case fold (directed from_end part) w ∙ is in
    grind (arith, nat_tests, length-seen, take_in_case, length-take-le, common_codes, nat_eq)

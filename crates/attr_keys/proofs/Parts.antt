-- The codes of a text and whether it is whole.
use Rattle.std.proofs.Common.{◌≡◌, ◌≢◌, ◌⊎◌, ℕ, Bool, true, false, not, ◌&&◌, ◌||◌, List, [], ◌∷◌, length, refl, sym, ap, ◌∙◌, arith, eqb, nat_eq}
use Rattle.std.specs.Cmp.Lexicographic.{slice_cmp}
use Rattle.std.specs.List.{starts_with}
use Rattle.std.specs.Ordering.{nat_cmp, bool_cmp, ordering_then}
use Rattle.std.proofs.lemmas.Bool.Decides.{nat_tests}
use Rattle.attr_keys.specs.declared.key.View.{View}
use Rattle.attr_keys.specs.inner.Cases.{in_case, seen_text}
use Rattle.attr_keys.specs.shared.Codes.{codes_of}
use Rattle.attr_keys.specs.shared.Meeting.{directed}
use Rattle.attr_keys.proofs.SeenTexts.{codes_in_case, length-seen}
use Rattle.attr_keys.proofs.RowLemmas.{and_none}

-- codes are ordered as the texts are, and a whole text comes after one that isn't
codes_order : (x y : List ℕ) (w v : Bool) → slice_cmp nat_cmp (codes_of false x w) (codes_of false y v)
    ≡ ordering_then (slice_cmp nat_cmp x y) (bool_cmp w v)
codes_order (a ∷ xs) (b ∷ bs) w v = grind (arith, nat_tests, codes_order xs bs w v)
codes_order x y w v = grind (arith, nat_tests)

-- the same of codes as they are read
pub order_seen : (view : View) (x y : List ℕ) (w v : Bool) (cs ds : List ℕ) → codes_of view.fold (directed view.from_end x) w ≡ cs →
    codes_of view.fold (directed view.from_end y) v ≡ ds →
    ordering_then (slice_cmp nat_cmp (seen_text view x) (seen_text view y)) (bool_cmp w v) ≡ slice_cmp nat_cmp cs ds
order_seen view x y w v cs ds first second = grind (arith, nat_tests, codes_order (seen_text view x) (seen_text view y) w v, codes_in_case)

-- a text has a key if it begins with it, and is as long if the key is whole
codes_begin : (text part : List ℕ) (w : Bool) → starts_with nat_eq (codes_of false text true) (codes_of false part w)
    ≡ starts_with nat_eq text part && (not w || eqb (length part) (length text))
codes_begin text [] false = refl
codes_begin [] [] true = refl
codes_begin (b ∷ bs) [] true = grind (arith, nat_tests)
codes_begin [] (c ∷ cs) true = grind (arith, nat_tests, nat_eq)
codes_begin [] (c ∷ cs) false = grind (arith, nat_tests, nat_eq)
codes_begin (b ∷ bs) (c ∷ cs) w = grind (arith, nat_tests, codes_begin bs cs w)

-- the same of a text and a part of a line as they are read
begin_in_case : (fold from_end : Bool) (text part : List ℕ) (w : Bool) →
    starts_with nat_eq (codes_of false (in_case fold (directed from_end text)) true) (codes_of fold (directed from_end part) w)
    ≡ starts_with nat_eq (in_case fold (directed from_end text)) (in_case fold (directed from_end part))
    && (not w || eqb (length part) (length text))
begin_in_case fold from_end text part w =
    let text' = in_case fold (directed from_end text) in
    let part' = in_case fold (directed from_end part) in
    let begins = starts_with nat_eq text' part' in
    ap (starts_with nat_eq (codes_of false text' true)) (sym (codes_in_case fold (directed from_end part) w))
    ∙ (codes_begin text' part' w
    ∙ (ap (λ n. begins && (not w || eqb n (length text'))) (length-seen fold from_end part)
    ∙ ap (λ n. begins && (not w || eqb (length part) n)) (length-seen fold from_end text)))

-- a whole key is as long as the text, or another one is asked for
pub has_if_long : (fold from_end : Bool) (text part codes : List ℕ) (w : Bool) → codes_of fold (directed from_end part) w ≡ codes →
    ((w ≡ true) × (length part ≡ length text)) ⊎ (w ≡ false) →
    starts_with nat_eq (in_case fold (directed from_end text)) (in_case fold (directed from_end part))
    ≡ starts_with nat_eq (codes_of false (in_case fold (directed from_end text)) true) codes
has_if_long fold from_end text part codes w is long = grind (arith, nat_tests, begin_in_case)

-- a whole key of another length
pub lacks_if_other : (fold from_end : Bool) (text part codes : List ℕ) (w : Bool) → codes_of fold (directed from_end part) w ≡ codes →
    w ≡ true → length part ≢ length text → false ≡ starts_with nat_eq (codes_of false (in_case fold (directed from_end text)) true) codes
lacks_if_other fold from_end text part codes w is whole other = grind (arith, nat_tests, begin_in_case, and_none)

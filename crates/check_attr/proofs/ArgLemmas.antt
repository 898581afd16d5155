-- One argument, and the text that it is.
use Rattle.std.proofs.Common.{◌≡◌, List, [], ◌∷◌, length, get_or, sym, ap, arith}

-- a list of one item
pub one_item : {A : Type 0} (items : List A) (x : A) → length items ≡ 1 → x ≡ get_or items 0 x → items ≡ x ∷ []
one_item [] x one is = absurd (omega arith)
one_item (y ∷ []) x one is = ap (λ z. z ∷ []) (sym is)
one_item (y ∷ z ∷ zs) x one is = absurd (omega arith)

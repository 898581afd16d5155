-- Precedence among occurrences.
use Rattle.std.proofs.Common.{◌≡◌, ℕ, ◌<◌, ◌⊎◌, List, [], ◌∷◌, ◌++◌, refl, inl, inr, ⊎_elim, arith}
use Rattle.std.proofs.lemmas.List.{append_assoc}
use Rattle.attr_table.specs.Table.{Occurrence, Root, Inside, path, ComesFirst, IsEarlier}

pub first_irreflexive : (xs : List ℕ) → ComesFirst xs xs → ⊥
first_irreflexive [] h = h
first_irreflexive (x ∷ xs) h = ⊎_elim (λ lt. omega arith) (λ r. first_irreflexive xs r.1) h

pub first_trans : (xs ys zs : List ℕ) → ComesFirst xs ys → ComesFirst ys zs → ComesFirst xs zs
first_trans (x ∷ xs) (y ∷ ys) (z ∷ zs) h k = grind (arith, first_trans xs ys zs)
first_trans xs ys zs h k = grind arith

pub first_beginning : (xs : List ℕ) (y : ℕ) (ys : List ℕ) → ComesFirst xs (xs ++ y ∷ ys)
first_beginning [] y ys = tt
first_beginning (x ∷ xs) y ys = inr (refl, first_beginning xs y ys)

-- the ways part, and the first goes to a later index
abbrev pub Parts : List ℕ → List ℕ → Type 0
Parts [] ys = ⊥
Parts (x ∷ xs) [] = ⊥
Parts (x ∷ xs) (y ∷ ys) = (y < x) ⊎ ((x ≡ y) × Parts xs ys)

pub parts_first : (xs ys : List ℕ) → Parts xs ys → ComesFirst xs ys
parts_first (x ∷ xs) (y ∷ ys) h = ⊎_elim (λ lt. inl lt) (λ r. inr (r.0, parts_first xs ys r.1)) h
parts_first xs ys h = absurd h

pub parts_left : (xs ys more : List ℕ) → Parts xs ys → Parts (xs ++ more) ys
parts_left (x ∷ xs) (y ∷ ys) more h = ⊎_elim (λ lt. inl lt) (λ r. inr (r.0, parts_left xs ys more r.1)) h
parts_left xs ys more h = absurd h

pub parts_right : (xs ys more : List ℕ) → Parts xs ys → Parts xs (ys ++ more)
parts_right (x ∷ xs) (y ∷ ys) more h = ⊎_elim (λ lt. inl lt) (λ r. inr (r.0, parts_right xs ys more r.1)) h
parts_right xs ys more h = absurd h

pub parts_last : (xs : List ℕ) (j k : ℕ) → j < k → Parts (xs ++ k ∷ []) (xs ++ j ∷ [])
parts_last [] j k lt = inl lt
parts_last (x ∷ xs) j k lt = inr (refl, parts_last xs j k lt)

-- an occurrence is inside another, at any depth
abbrev pub Below : Occurrence → Occurrence → Type 0
Below o (Root list line item) = ⊥
Below o (Inside parent index) = (o ≡ parent) ⊎ Below o parent

pub below_path : (o p : Occurrence) → Below o p → (y : ℕ) × (ys : List ℕ) × (path p ≡ path o ++ y ∷ ys)
below_path o (Root list line item) b = absurd b
below_path o (Inside parent index) b =
    ⊎_elim
    (λ (e : o ≡ parent). (index, [], rw e refl))
    (λ d. grind (arith, append_assoc (path o) ((below_path o parent d).0 ∷ (below_path o parent d).1) (index ∷ []), below_path o parent d))
    b

pub below_later : (o p : Occurrence) → Below o p → IsEarlier o p
below_later o p b = let r = below_path o p b in let e = r.2 in rw e (first_beginning (path o) r.0 r.1)

-- of the parts of an occurrence, or of the occurrences inside them
pub below_child : (o p : Occurrence) → Below o p → (k : ℕ) × ((Inside o k ≡ p) ⊎ Below (Inside o k) p)
below_child o (Root list line item) b = absurd b
below_child o (Inside parent index) b =
    ⊎_elim
    (λ (e : o ≡ parent). (index, inl (rw e refl)))
    (λ d. let r = below_child o parent d in (r.0, inr r.1))
    b

-- what is at an occurrence or inside it comes after what parts from it before
pub parts_below : (o p q : Occurrence) → Parts (path o) (path p) → (p ≡ q) ⊎ Below p q → Parts (path o) (path q)
parts_below o p q h c = grind (arith, below_path, parts_right)

pub earlier_below : (o p q : Occurrence) → IsEarlier o p → (p ≡ q) ⊎ Below p q → IsEarlier o q
earlier_below o p q h c = grind (arith, first_trans, below_later)

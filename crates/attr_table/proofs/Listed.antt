-- Lists from their end: their members, and their order.
use Rattle.std.proofs.Common.{◌≡◌, ℕ, zero, suc, ◌<◌, ◌⊎◌, List, [], ◌∷◌, ◌++◌, map, Some, refl, sym, inl, inr, ⊎_elim, arith}
use Rattle.std.specs.Prelude.{slice_get}
use Rattle.std.proofs.lemmas.List.{map-append, append-nil, append_assoc}
use Rattle.attr_table.specs.shared.Walk.{backwards}

-- an element is in a list
abbrev pub Mem : {X : Type 0} → X → List X → Type 0
Mem y [] = ⊥
Mem y (x ∷ xs) = (y ≡ x) ⊎ Mem y xs

pub mem_cases : {X : Type 0} (y : X) (xs ys : List X) → Mem y (xs ++ ys) → Mem y xs ⊎ Mem y ys
mem_cases y [] ys m = inr m
mem_cases y (x ∷ xs) ys m = grind (arith, mem_cases y xs ys)

pub mem_left : {X : Type 0} (y : X) (xs ys : List X) → Mem y xs → Mem y (xs ++ ys)
mem_left y [] ys m = absurd m
mem_left y (x ∷ xs) ys m = ⊎_elim (λ e. inl e) (λ r. inr (mem_left y xs ys r)) m

pub mem_right : {X : Type 0} (y : X) (xs ys : List X) → Mem y ys → Mem y (xs ++ ys)
mem_right y [] ys m = m
mem_right y (x ∷ xs) ys m = inr (mem_right y xs ys m)

-- f of each index and element, the last element first
abbrev pub backward : {X Y : Type 0} → (ℕ → X → List Y) → List X → List Y
backward f [] = []
backward f (x ∷ xs) = backward (λ k. f (suc k)) xs ++ f 0 x

pub mem_backward : {X Y : Type 0} (f : ℕ → X → List Y) (xs : List X) (y : Y) → Mem y (backward f xs) →
    (k : ℕ) × (x : X) × (slice_get xs k ≡ Some x) × Mem y (f k x)
mem_backward f [] y m = absurd m
mem_backward f (x ∷ xs) y m =
    ⊎_elim
    (λ a. let r = mem_backward (λ k. f (suc k)) xs y a in (suc r.0, r.1, r.2, r.3))
    (λ b. (0, x, refl, b))
    (mem_cases y (backward (λ k. f (suc k)) xs) (f 0 x) m)

pub backward_mem : {X Y : Type 0} (f : ℕ → X → List Y) (xs : List X) (k : ℕ) (x : X) (y : Y) →
    slice_get xs k ≡ Some x → Mem y (f k x) → Mem y (backward f xs)
backward_mem f [] k x y e m = absurd (cc)
backward_mem {X} {Y} f (z ∷ xs) zero x y e m = grind (arith, mem_right)
backward_mem f (z ∷ xs) (suc k) x y e m =
    mem_left y (backward (λ j. f (suc j)) xs) (f 0 z) (backward_mem (λ j. f (suc j)) xs k x y e m)

-- R relates each element to each later one
abbrev pub IsOrdered : {X : Type 0} → (X → X → Type 0) → List X → Type 0
IsOrdered R [] = Unit {0}
IsOrdered {X} R (x ∷ xs) = ((y : X) → Mem y xs → R x y) × IsOrdered R xs

pub ordered_append : {X : Type 0} (R : X → X → Type 0) (xs ys : List X) → IsOrdered R xs → IsOrdered R ys →
    ((x y : X) → Mem x xs → Mem y ys → R x y) → IsOrdered R (xs ++ ys)
ordered_append R [] ys p q h = q
ordered_append R (x ∷ xs) ys p q h = (
  λ y m. ⊎_elim (λ a. p.0 y a) (λ b. h x y (inl refl) b) (mem_cases y xs ys m),
  ordered_append R xs ys p.1 q (λ u v a b. h u v (inr a) b),
)

pub ordered_backward : {X Y : Type 0} (R : Y → Y → Type 0) (f : ℕ → X → List Y) (xs : List X) →
    ((k : ℕ) (x : X) → slice_get xs k ≡ Some x → IsOrdered R (f k x)) →
    ((j k : ℕ) (x y : X) (u v : Y) → j < k → Mem u (f k x) → Mem v (f j y) → R u v) →
    IsOrdered R (backward f xs)
ordered_backward R f [] each apart = tt
ordered_backward R f (x ∷ xs) each apart =
    ordered_append R (backward (λ k. f (suc k)) xs) (f 0 x)
    (ordered_backward R (λ k. f (suc k)) xs (λ k y e. each (suc k) y e)
    (λ j k y z u v lt a b. apart (suc j) (suc k) y z u v (omega arith) a b))
    (each 0 x refl)
    (λ u v a b. grind (arith, mem_backward (λ k. f (suc k)) xs u a, apart))

-- without indexes it is `backwards`
pub map-backward : {X Y Z : Type 0} (g : Y → Z) (f : ℕ → X → List Y) (h : X → List Z) (xs : List X) →
    ((k : ℕ) (x : X) → map g (f k x) ≡ h x) → map g (backward f xs) ≡ backwards h xs
map-backward g f h [] same = refl
map-backward g f h (x ∷ xs) same = grind (arith, map-append, map-backward g (λ k. f (suc k)) h xs)

pub backwards-append : {X Y : Type 0} (f : X → List Y) (xs ys : List X) →
    backwards f (xs ++ ys) ≡ backwards f ys ++ backwards f xs
backwards-append f [] ys = sym (append-nil (backwards f ys))
backwards-append f (x ∷ xs) ys = grind (arith, append_assoc, backwards-append f xs ys)

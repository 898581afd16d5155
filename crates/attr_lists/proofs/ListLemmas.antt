-- Lists and their images under a function.
use Rattle.std.proofs.Common.{◌≡◌, ℕ, ◌+◌, ◌<◌, Bool, true, List, [], ◌∷◌, ◌++◌, length, get_or, map, take}
use Rattle.std.proofs.Common.{drop, set, Result, OnErr, refl, sym, ap, ◌∙◌, arith, suc}
use Rattle.std.specs.List.{AllZip, list_all, refill}
use Rattle.std.specs.Option.{ForSome}
use Rattle.std.specs.Prelude.{position}
use Rattle.std.proofs.Common.{filter}
use Rattle.std.proofs.lemmas.Bool.{and_parts, cases_Bool, cond-false, cond-true}
use Rattle.std.proofs.lemmas.List.{length-map, map-set}
-- the element at an index of a mapped list
pub use Rattle.std.proofs.Math.ListN.{get_or-map}

-- f of the first so many elements, and the others as they are
abbrev pub front : {X : Type 0} → (X → X) → ℕ → List X → List X
front f i xs = map f (take i xs) ++ drop i xs

pub front-at : {X : Type 0} (f : X → X) (i : ℕ) (xs : List X) (d : X) → get_or (front f i xs) i d ≡ get_or xs i d
front-at f (suc i) (x ∷ xs) d = front-at f i xs d
front-at f i xs d = grind arith

front-set : {X : Type 0} (f : X → X) (i : ℕ) (xs : List X) (d : X) → i < length xs → set (front f i xs) i (f (get_or xs i d)) ≡ front f (suc i) xs
front-set f (suc i) (x ∷ xs) d h = ap (λ l. f x ∷ l) (front-set f i xs d (omega arith))
front-set f i xs d h = grind arith

-- one more element is changed
pub front-more : {X : Type 0} (f : X → X) (i : ℕ) (start now : List X) (x d : X) → i < length start → x ≡ f (get_or now i d) → now ≡ front f i start →
    set now i x ≡ front f (i + 1) start
front-more f i start now x d h is e = grind (arith, front-at, front-set)

-- so it is in what is viewed
pub front-step : {X Y : Type 0} (view : X → Y) (f : Y → Y) (start lines : List X) (i : ℕ) (d now : X) → i < length start
    → map view lines ≡ front f i (map view start) → view now ≡ f (view (get_or lines i d))
    → map view (set lines i now) ≡ front f (i + 1) (map view start)
front-step view f start lines i d now lt e is =
    map-set view lines i now
    ∙ front-more f i (map view start) (map view lines) (view now) (view d) (omega (arith, length-map start view))
    (is ∙ ap f (sym (get_or-map view lines i d))) e

-- a slice that was written over the whole of a list
pub refill_whole : {X : Type 0} (xs ws : List X) → length ws ≡ length xs → refill (length xs) xs ws ≡ ws
refill_whole [] [] e = refl
refill_whole [] (w ∷ ws) e = absurd (omega (arith, e))
refill_whole (x ∷ xs) [] e = absurd (omega (arith, e))
refill_whole (x ∷ xs) (w ∷ ws) e = ap (λ l. w ∷ l) (refill_whole xs ws (omega (arith, e)))

pub on_err : {T E : Type 0} (r : Result T E) (P : Type 0) → P → OnErr r P
on_err r P h = grind arith

-- each element passes
pub list_all-within : {X : Type 0} (p : X → Bool) (xs : List X) (i : ℕ) (d : X) → i < length xs → list_all p xs ≡ true → p (get_or xs i d) ≡ true
list_all-within p (x ∷ xs) (suc i) d lt h = list_all-within p xs i d (omega arith) (and_parts (p x) (list_all p xs) h).1
list_all-within p xs i d lt h = grind (arith, and_parts)

-- the offset of the first element that passes
pub position_inside : {X : Type 0} (p : X → Bool) (xs : List X) → ForSome (position p xs) (λ i. i < length xs)
position_inside p xs = grind arith

-- a test of what f gives
pub filter-map : {X Y : Type 0} (p : Y → Bool) (f : X → Y) (xs : List X) → map f (filter (λ x. p (f x)) xs) ≡ filter p (map f xs)
filter-map p f [] = refl
filter-map p f (x ∷ xs) = grind (arith, cond-true, filter, cond-false, cases_Bool, filter-map p f xs)

-- what copies have that each has of its original
pub map_copied : {X Y : Type 0} (f : X → Y) (R : X → X → Type 0) → ((x y : X) → R x y → f y ≡ f x) → (xs ys : List X) → AllZip R xs ys
    → map f ys ≡ map f xs
map_copied f R same [] [] h = refl
map_copied f R same (x ∷ xs) (y ∷ ys) h = grind (arith, map_copied f R same xs ys, same x y)
map_copied f R same xs ys h = grind arith

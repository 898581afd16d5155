-- Lists compare one by one as what is compared of each.
use Rattle.std.proofs.Common.{arith, ◌≡◌, Bool, List, ◌∷◌, map, ap}
use Rattle.std.specs.Prelude.{◌&&◌}
use Rattle.std.specs.declared.cmp.Ordering.{Ordering}
use Rattle.std.specs.Ordering.{ordering_then}
use Rattle.std.specs.Cmp.Lexicographic.{pointwise, slice_cmp}

pub equal_alone : {X Y : Type 0} (f : X → Y) (eq : Y → Y → Bool) (xs ys : List X)
    → pointwise (λ x y. eq (f x) (f y)) xs ys ≡ pointwise eq (map f xs) (map f ys)
equal_alone f eq (x ∷ xs) (y ∷ ys) = ap (λ rest. eq (f x) (f y) && rest) (equal_alone f eq xs ys)
equal_alone f eq xs ys = grind arith

pub ordered_alone : {X Y : Type 0} (f : X → Y) (cmp : Y → Y → Ordering) (xs ys : List X)
    → slice_cmp (λ x y. cmp (f x) (f y)) xs ys ≡ slice_cmp cmp (map f xs) (map f ys)
ordered_alone f cmp (x ∷ xs) (y ∷ ys) = ap (ordering_then (cmp (f x) (f y))) (ordered_alone f cmp xs ys)
ordered_alone f cmp xs ys = grind arith

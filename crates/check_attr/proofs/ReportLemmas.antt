-- A text that grows by the front of what is left to print.
use Rattle.std.proofs.Common.{arith, ◌≡◌, ℕ, List, ◌∷◌, ◌++◌, Option, Result, OnErr, append_assoc}
use Rattle.std.proofs.lemmas.Bool.Decides.{nat_tests}
use Rattle.std.specs.List.{flat_map}
use Rattle.std.specs.Option.{MatchOption}

-- the same of a thing that was there unless memory ran out, which it did not
pub printed-more_line : {X : Type 0} (N : Type 0) (f : X → List ℕ) (whole text longer : List ℕ) (line : Option X) (all xs : List X) → text ++ flat_map
    f all ≡ whole
    → MatchOption line N (λ x. all ≡ x ∷ xs) → MatchOption line ⊥ (λ x. longer ≡ text ++ f x) → longer ++ flat_map f xs ≡ whole
printed-more_line N f whole text longer line all xs so_far first grown = grind (arith, nat_tests, append_assoc)

pub OnErr-weaker : {T E : Type 0} (r : Result T E) (P Q : Type 0) → (P → Q) → OnErr r P → OnErr r Q
OnErr-weaker r P Q weaker h = grind (arith, nat_tests)

-- Elements of one number, in a list whose numbers don't fall: halving finds where they begin and end.
use Rattle.std.proofs.Common.{◌≡◌, ℕ, ◌-◌, ◌<◌, ◌≤◌, Bool, true, false, not, List, [], ◌∷◌, ◌++◌, length, take, drop, get_or, filter, All}
use Rattle.std.proofs.Common.{eqb, leb, ltb, refl, sym, ap, ◌∙◌, ⊎_elim, arith}
use Rattle.std.specs.List.{remove_range}
use Rattle.std.specs.List.Sorted.{IsPartitionPoint}
use Rattle.std.proofs.lemmas.Bool.{cases_lt}
use Rattle.std.proofs.lemmas.List.{length-take, length-drop, get_or-take, get_or-drop, take-append-drop, drop-drop}
use Rattle.std.proofs.lemmas.List.Elements.{All-head, All-tail, filter-append}

pub keep_all : {X : Type 0} (p : X → Bool) (xs : List X) → All (λ x. p x ≡ true) xs → filter p xs ≡ xs
keep_all p [] h = refl
keep_all p (x ∷ xs) h =
    rw (All-head (λ x. p x ≡ true) x xs h) (ap (λ l. x ∷ l) (keep_all p xs (All-tail (λ x. p x ≡ true) x xs h)))

pub keep_none : {X : Type 0} (p : X → Bool) (xs : List X) → All (λ x. p x ≡ false) xs → filter p xs ≡ []
keep_none p [] h = refl
keep_none p (x ∷ xs) h = rw (All-head (λ x. p x ≡ false) x xs h) (keep_none p xs (All-tail (λ x. p x ≡ false) x xs h))

-- the numbers below t, up to t, and above it
abbrev Below : {X : Type 0} → (X → ℕ) → ℕ → List X → ℕ → Type 0
Below n t xs i = IsPartitionPoint (λ x. ltb (n x) t ≡ true) (λ x. ltb (n x) t ≡ false) xs i

abbrev Upto : {X : Type 0} → (X → ℕ) → ℕ → List X → ℕ → Type 0
Upto n t xs j = IsPartitionPoint (λ x. leb (n x) t ≡ true) (λ x. leb (n x) t ≡ false) xs j

-- those below t end before those up to t
pub points_apart : {X : Type 0} (n : X → ℕ) (xs : List X) (t i j : ℕ) → i ≤ length xs → Below n t xs i → Upto n t xs j → i ≤ j
points_apart n [] t i j within first second = omega arith
points_apart n (x ∷ xs) t i j within first second =
    ⊎_elim
    (λ (lt : j < i). absurd (both (n (get_or (x ∷ xs) j x)) (first.0 j x (omega arith) lt) (second.1 j x (omega arith) (omega (arith, within)))))
    (λ le. le) (cases_lt j i)
  where
    both : (a : ℕ) → ltb a t ≡ true → leb a t ≡ false → ⊥
    both a f g = grind arith

-- a removal of what stands between leaves the others
pub run_removed : {X : Type 0} (n : X → ℕ) (xs : List X) (t i j : ℕ) → i ≤ j → j ≤ length xs → Below n t xs i → Upto n t xs j
    → remove_range xs i j ≡ filter (λ x. not (eqb (n x) t)) xs
run_removed {X} n xs t i j le within first second =
    let p : X → Bool = λ x. not (eqb (n x) t) in
    let rest = drop i xs in
    let mid = take (j - i) rest in
    let last = drop (j - i) rest in
    let last_is : last ≡ drop j xs = drop-drop (j - i) i xs ∙ ap (λ k. drop k xs) (omega arith) in
    let front : filter p (take i xs) ≡ take i xs = keep_all p (take i xs) (λ k d lt. grind (arith, length-take, get_or-take, lower)) in
    let middle : filter p mid ≡ [] = keep_none p mid (λ k d lt. grind (arith, length-take, get_or-take, get_or-drop, same)) in
    let back : filter p (drop j xs) ≡ drop j xs = keep_all p (drop j xs) (λ k d lt. grind (arith, get_or-drop, upper, length-drop)) in
    sym (ap (filter p) (sym (take-append-drop i xs)) ∙ filter-append p (take i xs) rest
    ∙ ap (λ l. l ++ filter p rest) front
    ∙ ap (λ l. take i xs ++ l) (ap (filter p) (sym (take-append-drop (j - i) rest)) ∙ filter-append p mid last
    ∙ ap (λ l. l ++ filter p last) middle ∙ ap (filter p) last_is ∙ back))
  where
    lower : (a : ℕ) → ltb a t ≡ true → eqb a t ≡ false
    lower a f = grind arith

    same : (a : ℕ) → ltb a t ≡ false → leb a t ≡ true → eqb a t ≡ true
    same a f g = grind arith

    upper : (a : ℕ) → leb a t ≡ false → eqb a t ≡ false
    upper a f = grind arith

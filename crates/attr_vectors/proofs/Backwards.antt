-- The loops of the plain search, which go through a list from its end.
use Rattle.std.proofs.Common.{◌≡◌, ℕ, ◌-◌, ◌<◌, ◌≤◌, List, [], ◌++◌, map, length, get_or, take, drop, refl, arith}
use Rattle.std.proofs.lemmas.Bool.Decides.{nat_tests}
use Rattle.std.proofs.lemmas.List.{map-append, drop_all, drop_more, take-append-drop}
use Rattle.attr_table.specs.Setting.{Item}
use Rattle.attr_table.specs.Table.{Slots}
use Rattle.attr_table.specs.shared.Walk.{Task, Searches, backwards}
use Rattle.attr_table.proofs.ForCallers.{backwards-append, then_searches}

-- no element, one more element, and the rest
pub backwards-none : {X Y Z : Type 0} (f : Y → List Z) (g : X → Y) (xs : List X) →
    backwards f (map g (drop (length xs) xs)) ≡ []
backwards-none f g xs = let e = drop_all (length xs) xs (omega arith) in rw e refl

backwards-more : {X Y Z : Type 0} (f : Y → List Z) (g : X → Y) (xs : List X) (k : ℕ) (d : X) → 0 < k → k ≤ length xs →
    backwards f (map g (drop (k - 1) xs)) ≡ backwards f (map g (drop k xs)) ++ f (g (get_or xs (k - 1) d))
backwards-more f g xs k d pos le = grind (arith, nat_tests, drop_more)

pub backwards-split : {X Y Z : Type 0} (f : Y → List Z) (g : X → Y) (xs : List X) (k : ℕ) →
    backwards f (map g xs) ≡ backwards f (map g (drop k xs)) ++ backwards f (map g (take k xs))
backwards-split f g xs k =
    let e = take-append-drop k xs in
    grind (arith, nat_tests, map-append, backwards-append)

-- one more element is searched
pub more_searched : {X Y : Type 0} (bodies : List (List Item)) (wanted : List ℕ) (f : Y → List Task) (g : X → Y) (xs : List X) (k : ℕ) (d : X)
    (first second third : Slots) (a b c : ℕ) →
    0 < k → k ≤ length xs → Searches bodies wanted (backwards f (map g (drop k xs))) first second a b →
    Searches bodies wanted (f (g (get_or xs (k - 1) d))) second third b c →
    Searches bodies wanted (backwards f (map g (drop (k - 1) xs))) first third a c
more_searched bodies wanted f g xs k d first second third a b c pos le p q =
    let e = backwards-more f g xs k d pos le in
    rw e (then_searches bodies wanted (backwards f (map g (drop k xs))) (f (g (get_or xs (k - 1) d))) first second third
    a b c p q)

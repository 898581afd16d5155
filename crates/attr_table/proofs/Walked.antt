-- Walks: each has an end, one goes on from another, and tasks whose slots are filled may be left out.
use Rattle.std.proofs.Common.{◌≡◌, ℕ, zero, suc, ◌+◌, ◌≤◌, List, [], ◌∷◌, ◌++◌, length, Option, refl, ⊎_elim, arith, Bool, true, false}
use Rattle.std.specs.Prelude.{is_some}
use Rattle.std.proofs.lemmas.Bool.{cases_eq, ne_eqb, cases_Bool}
use Rattle.std.proofs.lemmas.List.{length-append, append_assoc}
use Rattle.attr_table.specs.Setting.{Item, Origin, body_of}
use Rattle.attr_table.specs.Table.{Slots}
use Rattle.attr_table.specs.shared.Walk.{Task, Walks, ends, stops, skips, fills, tasks_in, opened, fill, left_in}

pub length-tasks_in : (origin : Origin) (cause : Option ℕ) (items : List Item) →
    length (tasks_in origin cause items) ≡ length items
length-tasks_in origin cause [] = refl
length-tasks_in origin cause (i ∷ items) = grind (arith, length-append, length-tasks_in origin cause items)

pub length-opened : (bodies : List (List Item)) (t : Task) →
    length (opened bodies t) ≤ length (body_of bodies t.item.attribute)
length-opened bodies t = grind (arith, length-tasks_in)

pub fill_other : (bodies : List (List Item)) (t : Task) (slots : Slots) (a : ℕ) → (a ≡ t.item.attribute → ⊥) →
    fill bodies t slots a ≡ slots a
fill_other bodies t slots a ne = let e = ne_eqb a t.item.attribute ne in rw e refl

-- a slot that is filled stays so
pub fill_keeps : (bodies : List (List Item)) (t : Task) (slots : Slots) (a : ℕ) → is_some (slots a) ≡ true →
    is_some (fill bodies t slots a) ≡ true
fill_keeps bodies t slots a e = grind (arith, fill_other, cases_eq)

left_one : (bodies : List (List Item)) (old new : Slots) (a : ℕ) → is_some (old a) ≡ false → is_some (new a) ≡ true →
    ((b : ℕ) → (b ≡ a → ⊥) → new b ≡ old b) →
    left_in bodies old ≡ left_in bodies new + length (body_of bodies a)
left_one (body ∷ bodies) old new (suc a) empty full same = grind (arith, left_one bodies)
left_one bodies old new a empty full same = grind arith

-- a task that fills its slot leaves as many fewer items as its attribute's body has
pub left_in-fill : (bodies : List (List Item)) (t : Task) (slots : Slots) → is_some (slots t.item.attribute) ≡ false →
    left_in bodies slots ≡ left_in bodies (fill bodies t slots) + length (body_of bodies t.item.attribute)
left_in-fill bodies t slots empty = grind (arith, left_one, fill_other)

-- from each point a walk leads to an end
pub walk_from : (bodies : List (List Item)) (done : Slots → Bool) (fuel : ℕ) (ts : List Task) (slots : Slots) →
    length ts + left_in bodies slots ≤ fuel → (final : Slots) × Walks bodies done ts slots final
walk_from bodies done fuel [] slots le = (slots, ends)
walk_from bodies done zero (t ∷ ts) slots le = absurd (omega arith)
walk_from bodies done (suc fuel) (t ∷ ts) slots le =
    ⊎_elim
    (λ (d : done slots ≡ true). (slots, stops d))
    (λ (d : done slots ≡ false).
    let past = walk_from bodies done fuel ts slots in
    let through = walk_from bodies done fuel (opened bodies t ++ ts) (fill bodies t slots) in
    grind (arith, cases_Bool (is_some (slots t.item.attribute)), past, through, length-append, length-opened, left_in-fill, skips, fills))
    (cases_Bool (done slots))

-- a walk that is done changes nothing
pub stopped : (bodies : List (List Item)) (done : Slots → Bool) (ts : List Task) (slots final : Slots) →
    Walks bodies done ts slots final → done slots ≡ true → final ≡ slots
stopped bodies done [] slots final ends d = refl
stopped bodies done ts slots final (stops e) d = refl
stopped bodies done (t ∷ ts) slots final (skips e w) d = stopped bodies done ts slots final w d
stopped bodies done (t ∷ ts) slots final (fills n e w) d = absurd (cc)

pub then_walks : (bodies : List (List Item)) (done : Slots → Bool) (xs ys : List Task) (first second third : Slots) →
    Walks bodies done xs first second → Walks bodies done ys second third → Walks bodies done (xs ++ ys) first third
then_walks bodies done [] ys first second third ends v = v
then_walks bodies done xs ys first second third (stops d) v = grind (arith, stopped, stops)
then_walks bodies done (t ∷ xs) ys first second third (skips e w) v =
    skips e (then_walks bodies done xs ys first second third w v)
then_walks bodies done (t ∷ xs) ys first second third (fills d e w) v =
    fills d e (rw append_assoc at (then_walks bodies done (opened bodies t ++ xs) ys (fill bodies t first) second third w v))

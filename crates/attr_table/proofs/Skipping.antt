-- A search may skip the attributes that nothing depends on: a walk goes past their tasks and those of their bodies.
use Rattle.std.proofs.Common.{arith, ◌≡◌, ℕ, List, [], ◌∷◌, ◌++◌, Option, Some, refl, inl, ⊎_elim, Bool, true, false}
use Rattle.std.specs.Prelude.{All, is_some, if◌then◌else◌}
use Rattle.std.proofs.lemmas.Bool.{cases_eq, eq-eqb, cases_Bool}
use Rattle.std.proofs.lemmas.List.Elements.{All-head, All-tail}
use mathlib.Core.Path.{fun_ext}
use Rattle.attr_table.specs.Setting.{Item, Origin, Setting, body_of}
use Rattle.attr_table.specs.Table.{Slots}
use Rattle.attr_table.specs.Cut.{IsSearched, is_done}
use Rattle.attr_table.specs.Skipped.{IsClosed, narrowed}
use Rattle.attr_table.specs.shared.Walk.{Task, Walks, ends, stops, skips, fills, tasks_in, expands, opened, fill}
use Rattle.attr_table.proofs.Listed.{Mem, mem_cases}
use Rattle.attr_table.proofs.Walked.{fill_other}
use Rattle.attr_table.proofs.Cuts.{some_walk, walked_searched, same_searched}

-- the slot of a needed attribute, and that of any other one
pub narrowed_at : (needed : ℕ → Bool) (slots : Slots) (a : ℕ) → needed a ≡ true → narrowed needed slots a ≡ slots a
narrowed_at needed slots a e = rw e refl

narrowed_past : (needed : ℕ → Bool) (slots : Slots) (a : ℕ) → needed a ≡ false → is_some (narrowed needed slots a) ≡ true
narrowed_past needed slots a e = rw e refl

-- if all attributes are needed, no slot is skipped
pub narrowed_all : (needed : ℕ → Bool) (slots : Slots) → ((a : ℕ) → needed a ≡ true) → narrowed needed slots ≡ slots
narrowed_all needed slots all = fun_ext (λ a. narrowed_at needed slots a (all a))

-- a search is done with the needed slots if it is with all
done_narrowed : (needed : ℕ → Bool) (wanted : List ℕ) (slots : Slots) → All (λ w. needed w ≡ true) wanted →
    is_done wanted (narrowed needed slots) ≡ is_done wanted slots
done_narrowed needed [] slots all = refl
done_narrowed needed (w ∷ wanted) slots all =
    let d = done_narrowed needed wanted slots (All-tail (λ w. needed w ≡ true) w wanted all) in
    grind (arith, All-head (λ w. needed w ≡ true) w wanted all)

-- a needed slot is filled in both, any other one in none
narrowed_fill : (bodies : List (List Item)) (needed : ℕ → Bool) (t : Task) (slots : Slots) → needed t.item.attribute ≡ true →
    narrowed needed (fill bodies t slots) ≡ fill bodies t (narrowed needed slots)
narrowed_fill bodies needed t slots n = grind (arith, eq-eqb, fill_other, cases_eq)

narrowed_unfilled : (bodies : List (List Item)) (needed : ℕ → Bool) (t : Task) (slots : Slots) →
    needed t.item.attribute ≡ false → narrowed needed (fill bodies t slots) ≡ narrowed needed slots
narrowed_unfilled bodies needed t slots n = grind (arith, fill_other, cases_eq)

-- what holds of items holds of those of their tasks
task_in : (P : Item → Type 0) (origin : Origin) (cause : Option ℕ) (items : List Item) (u : Task) → All P items →
    Mem u (tasks_in origin cause items) → P u.item
task_in P origin cause [] u all m = absurd m
task_in P origin cause (i ∷ items) u all m =
    let one : Task = record { origin = origin; item = i; cause = cause } in
    let k = mem_cases u (tasks_in origin cause items) (one ∷ []) m in
    grind (arith, All-head P i items all, task_in P origin cause items u (All-tail P i items all))

-- the tasks of the body of a macro that is not needed are not needed
opened_past : (bodies : List (List Item)) (needed : ℕ → Bool) (t : Task) → IsClosed bodies needed → needed t.item.attribute ≡ false →
    (u : Task) → Mem u (opened bodies t) → needed u.item.attribute ≡ false
opened_past bodies needed t closed n u = go (expands t.item.state)
  where
    go : (b : Bool) →
        Mem u (if b then tasks_in t.origin (Some t.item.attribute) (body_of bodies t.item.attribute) else []) →
        needed u.item.attribute ≡ false
    go true m =
        let k = task_in (λ i. needed i.attribute ≡ true → needed t.item.attribute ≡ true) t.origin (Some t.item.attribute)
        (body_of bodies t.item.attribute) u (closed t.item.attribute) m in
        grind (arith, cases_Bool)
    go false m = absurd m

-- first tasks whose slots are filled may be left out
walks_without : (bodies : List (List Item)) (done : Slots → Bool) (xs ts : List Task) (slots final : Slots) →
    ((t : Task) → Mem t xs → is_some (slots t.item.attribute) ≡ true) → Walks bodies done (xs ++ ts) slots final →
    Walks bodies done ts slots final
walks_without bodies done [] ts slots final filled w = w
walks_without bodies done (x ∷ xs) ts slots final filled (stops d) = stops d
walks_without bodies done (x ∷ xs) ts slots final filled (skips e w) = grind (arith, walks_without bodies done xs ts slots final)
walks_without bodies done (x ∷ xs) ts slots final filled (fills d e w) = let f = filled x (inl refl) in absurd (cc)

-- the same tasks lead from the needed slots to the needed slots
module _ (bodies : List (List Item)) (needed : ℕ → Bool) (wanted : List ℕ) (closed : IsClosed bodies needed)
    (all : All (λ w. needed w ≡ true) wanted) where
  narrowed_walk : {ts : List Task} {slots final : Slots} → Walks bodies (is_done wanted) ts slots final →
      Walks bodies (is_done wanted) ts (narrowed needed slots) (narrowed needed final)
  narrowed_walk ends = ends
  narrowed_walk {slots = slots} (stops d) = let e = done_narrowed needed wanted slots all in stops (rw e d)
  narrowed_walk (skips {t = t} {slots = slots} e w) = grind (arith, narrowed_past, cases_Bool, skips, narrowed_walk w)
  narrowed_walk (fills {t = t} {ts = ts} {slots = slots} {final = final} d e w) =
      ⊎_elim
      (λ (n : needed t.item.attribute ≡ true).
      let f = done_narrowed needed wanted slots all in
      fills (rw f d) (rw n e) (rw (narrowed_fill bodies needed t slots n) at (narrowed_walk w)))
      (λ (n : needed t.item.attribute ≡ false).
      skips (narrowed_past needed slots t.item.attribute n)
      (walks_without bodies (is_done wanted) (opened bodies t) ts (narrowed needed slots) (narrowed needed final)
      (λ u m. narrowed_past needed slots u.item.attribute (opened_past bodies needed t closed n u m))
      (rw (narrowed_unfilled bodies needed t slots n) at (narrowed_walk w))))
      (cases_Bool (needed t.item.attribute))

pub skipping_unseen : (s : Setting) (needed : ℕ → Bool) (wanted : List ℕ) (start slots : Slots) → IsClosed s.bodies needed →
    All (λ w. needed w ≡ true) wanted → IsSearched s wanted (narrowed needed start) slots →
    (all : Slots) × IsSearched s wanted start all × (slots ≡ narrowed needed all)
skipping_unseen s needed wanted start slots closed wants searched =
    let w = some_walk s wanted start in
    let walked = walked_searched s wanted (narrowed needed start) (narrowed needed w.0) in
    grind (arith, walked_searched s wanted start w.0 w.1, same_searched s wanted (narrowed needed start) slots, walked, narrowed_walk)

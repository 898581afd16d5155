-- Parts of a search, with their counts.
use Rattle.std.proofs.Common.{◌≡◌, ℕ, zero, suc, ◌+◌, ◌-◌, ◌^◌, ◌≤◌, List, [], ◌∷◌, ◌++◌, length, Option, refl, sym, arith, true, false}
use Rattle.std.specs.Prelude.{is_some, sum_by, All}
use Rattle.std.proofs.lemmas.Grind.{common_steps}
use Rattle.std.proofs.lemmas.Bool.{cases_eq, cases_Bool}
use Rattle.std.proofs.lemmas.List.{length-append, append_assoc}
use Rattle.std.proofs.lemmas.List.Elements.{All-head, All-tail}
use Rattle.std.proofs.lemmas.List.Sums.{sum_by-cons}
use Rattle.attr_table.specs.Setting.{Item, Origin, Setting, body_of}
use Rattle.attr_table.specs.Table.{Slots}
use Rattle.attr_table.specs.Cut.{is_done}
use Rattle.attr_table.specs.Work.{work_of, newly_filled}
use Rattle.attr_table.specs.shared.Walk.{Task, ends, stops, skips, fills, Searches, tasks_in, tasks_of, backwards, opened, fill}
use Rattle.attr_table.specs.shared.Walk.{left_in}
use Rattle.attr_table.proofs.Walked.{length-tasks_in, fill_other, left_in-fill, length-opened, then_walks}

-- the greatest u128
abbrev pub top : ℕ
top = 2 ^ 128 - 1

pub newly_filled-same : (slots : Slots) (n : ℕ) → newly_filled slots slots n ≡ 0
newly_filled-same slots zero = refl
newly_filled-same slots (suc n) = grind (arith, newly_filled-same slots n)

pub newly_filled-through : (first second third : Slots) (n : ℕ) →
    newly_filled first third n ≤ newly_filled first second n + newly_filled second third n
newly_filled-through first second third zero = omega arith
newly_filled-through first second third (suc n) = grind (arith, newly_filled-through first second third n)

pub newly_filled-most : (before after : Slots) (n : ℕ) → newly_filled before after n ≤ n
newly_filled-most before after zero = omega arith
newly_filled-most before after (suc n) = grind (arith, newly_filled-most before after n)

-- slots that differ at one attribute at most
newly_none : (before after : Slots) (a n : ℕ) → n ≤ a → ((b : ℕ) → (b ≡ a → ⊥) → after b ≡ before b) →
    newly_filled before after n ≡ 0
newly_none before after a zero le same = refl
newly_none before after a (suc n) le same = grind (arith, newly_none before after a n)

pub newly_one : (before after : Slots) (a n : ℕ) → ((b : ℕ) → (b ≡ a → ⊥) → after b ≡ before b) →
    newly_filled before after n ≤ 1
newly_one before after a zero same = omega arith
newly_one before after a (suc n) same = grind (arith, newly_none, cases_eq, newly_one before after a n same)

-- a part that takes nothing
pub nothing_taken : (bodies : List (List Item)) (wanted : List ℕ) (slots : Slots) (taken : ℕ) →
    Searches bodies wanted [] slots slots taken taken
nothing_taken bodies wanted slots taken = grind (arith, newly_filled-same, ends)

pub done_taken : (bodies : List (List Item)) (wanted : List ℕ) (ts : List Task) (slots : Slots) (taken : ℕ) →
    is_done wanted slots ≡ true → Searches bodies wanted ts slots slots taken taken
done_taken bodies wanted ts slots taken done = grind (arith, newly_filled-same, stops)

-- one part after another
pub then_searches : (bodies : List (List Item)) (wanted : List ℕ) (xs ys : List Task) (first second third : Slots) (a b c : ℕ) →
    Searches bodies wanted xs first second a b → Searches bodies wanted ys second third b c →
    Searches bodies wanted (xs ++ ys) first third a c
then_searches bodies wanted xs ys first second third a b c p q =
    grind (arith, length-append xs ys, then_walks bodies (is_done wanted) xs ys first second third, newly_filled-through first second third)

-- a task is passed over whose slot is filled
passes_task : (bodies : List (List Item)) (wanted : List ℕ) (t : Task) (ts : List Task) (before after : Slots) (a b : ℕ) →
    is_some (before t.item.attribute) ≡ true →
    Searches bodies wanted ts before after a b → Searches bodies wanted (t ∷ ts) before after a b
passes_task bodies wanted t ts before after a b filled p = grind (arith, skips)

-- and so are items whose slots are filled
pub passes_items : (bodies : List (List Item)) (wanted : List ℕ) (origin : Origin) (cause : Option ℕ) (items : List Item) (ts : List Task)
    (before after : Slots) (a b : ℕ) →
    All (λ i. is_some (before i.attribute) ≡ true) items → Searches bodies wanted ts before after a b →
    Searches bodies wanted (tasks_in origin cause items ++ ts) before after a b
passes_items bodies wanted origin cause [] ts before after a b filled p = p
passes_items bodies wanted origin cause (i ∷ items) ts before after a b filled p =
    let P : Item → Type 0 = λ i. is_some (before i.attribute) ≡ true in
    let t : Task = record { origin = origin; item = i; cause = cause } in
    let first = passes_task bodies wanted t ts before after a b (All-head P i items filled) p in
    let rest = passes_items bodies wanted origin cause items (t ∷ ts) before after a b (All-tail P i items filled) first in
    grind (arith, append_assoc)

-- a task fills its slot, and if it sets its attribute, the items of its body come next
pub fills_task : (bodies : List (List Item)) (wanted : List ℕ) (t : Task) (ts : List Task) (before next after : Slots) (a b : ℕ) →
    next ≡ fill bodies t before → is_done wanted before ≡ false → is_some (before t.item.attribute) ≡ false →
    Searches bodies wanted (opened bodies t ++ ts) next after (a + 1) b → Searches bodies wanted (t ∷ ts) before after a b
fills_task bodies wanted t ts before next after a b is undone empty p =
    let q = rw is at p in
    let one = newly_one before (fill bodies t before) t.item.attribute in
    record {
      walks = fills undone empty q.walks;
      most = omega (arith, length-append (opened bodies t) ts, length-opened bodies t, left_in-fill bodies t before empty, q.most);
      least = λ n. let least = q.least n in
          grind (arith, newly_filled-through before (fill bodies t before) after n, fill_other, one n);
    }

pub left_in-less : (bodies : List (List Item)) (t : Task) (before next : Slots) → next ≡ fill bodies t before →
    is_some (before t.item.attribute) ≡ false →
    left_in bodies next + length (body_of bodies t.item.attribute) ≡ left_in bodies before
left_in-less bodies t before next is empty = let e = left_in-fill bodies t before empty in rw is (sym e)

length-backwards : {X Y : Type 0} (f : X → List Y) (size : X → ℕ) (xs : List X) → ((x : X) → length (f x) ≡ size x) →
    length (backwards f xs) ≡ sum_by size xs
length-backwards f size [] same = refl
length-backwards f size (x ∷ xs) same = grind (arith, length-append, sum_by-cons, length-backwards f size xs same)

left_in-most : (bodies : List (List Item)) (slots : Slots) → left_in bodies slots ≤ sum_by (λ body. length body) bodies
left_in-most [] slots = omega arith
left_in-most (body ∷ bodies) slots = grind (arith, common_steps, sum_by-cons, cases_Bool, left_in-most bodies)

-- a search over all lists takes no more than the work
pub taken_most : (s : Setting) (wanted : List ℕ) (before after : Slots) (taken : ℕ) →
    Searches s.bodies wanted (tasks_of s.lists) before after 0 taken → taken ≤ work_of s
taken_most s wanted before after taken p = grind (arith, length-backwards, length-tasks_in, left_in-most)

-- and no less than the slots that it fills
pub taken_least : (s : Setting) (wanted : List ℕ) (before after : Slots) (taken n : ℕ) → n ≤ top →
    Searches s.bodies wanted (tasks_of s.lists) before after 0 taken → newly_filled before after n ≤ taken
taken_least s wanted before after taken n fits p = grind (arith, newly_filled-most)

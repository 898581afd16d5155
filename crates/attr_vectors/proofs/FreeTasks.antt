-- Tasks of items whose slots are free, which a stack has: those of filled slots are left out.
use Rattle.std.proofs.Common.{◌≡◌, ℕ, ◌+◌, ◌≤◌, List, [], ◌∷◌, ◌++◌, length, min, Option, Some, None, ⊎_elim, arith, Bool, true, false}
use Rattle.std.specs.Prelude.{is_some}
use Rattle.std.proofs.lemmas.Bool.{cases_Bool}
use Rattle.std.proofs.lemmas.List.{length-append, append-nil}
use Rattle.std.proofs.lemmas.List.Elements.{filter-append}
use Rattle.attr_table.specs.Setting.{Item, Origin, Answer, body_of}
use Rattle.attr_table.specs.Table.{Slots}
use Rattle.attr_table.specs.Cut.{is_done}
use Rattle.attr_table.specs.shared.Walk.{Task, Walks, ends, stops, skips, fills, Searches, tasks_in, expands, opened, fill, left_in}
use Rattle.attr_vectors.specs.inner.Plain.{free_items}
use Rattle.attr_table.proofs.ForCallers.{backwards-append, length-tasks_in, fill_other, fill_keeps, some_or_none, top}
use Rattle.attr_table.proofs.ForCallers.{newly_filled-same, newly_filled-through, newly_one, left_in-fill, left_in-less}

-- one more item adds its task to the free ones if its slot is empty, and else none
pub tasks_push : (slots : Slots) (origin : Origin) (cause : Option ℕ) (items : List Item) (i : Item) →
    is_some (slots i.attribute) ≡ false →
    tasks_in origin cause (free_items slots (items ++ i ∷ []))
    ≡ record { origin = origin; item = i; cause = cause } ∷ tasks_in origin cause (free_items slots items)
tasks_push slots origin cause items i e = grind (arith, filter-append, backwards-append)

pub tasks_pass : (slots : Slots) (origin : Origin) (cause : Option ℕ) (items : List Item) (i : Item) →
    is_some (slots i.attribute) ≡ true →
    tasks_in origin cause (free_items slots (items ++ i ∷ [])) ≡ tasks_in origin cause (free_items slots items)
tasks_pass slots origin cause items i e = grind (arith, filter-append, append-nil)

pub length-free : (slots : Slots) (items : List Item) → length (free_items slots items) ≤ length items
length-free slots [] = omega arith
length-free slots (i ∷ items) = grind (arith, cases_Bool, length-free slots items)

-- tasks that are left out are those whose slots are filled
pub data LeavesOut (slots : Slots) : List Task → List Task → Type 0 where
  none_left : LeavesOut slots [] []
  kept_one : {t : Task} {all some : List Task} → LeavesOut slots all some → LeavesOut slots (t ∷ all) (t ∷ some)
  left_one_out : {t : Task} {all some : List Task} → is_some (slots t.item.attribute) ≡ true →
      LeavesOut slots all some → LeavesOut slots (t ∷ all) some

leaves_none : (slots : Slots) (ts : List Task) → LeavesOut slots ts ts
leaves_none slots [] = none_left
leaves_none slots (t ∷ ts) = kept_one (leaves_none slots ts)

leaves_out_append : {slots : Slots} {ts us vs ws : List Task} → LeavesOut slots ts us → LeavesOut slots vs ws →
    LeavesOut slots (ts ++ vs) (us ++ ws)
leaves_out_append none_left w = w
leaves_out_append (kept_one l) w = kept_one (leaves_out_append l w)
leaves_out_append (left_one_out e l) w = left_one_out e (leaves_out_append l w)

leaves_out_fill : (bodies : List (List Item)) (t : Task) {slots : Slots} {ts us : List Task} → LeavesOut slots ts us →
    LeavesOut (fill bodies t slots) ts us
leaves_out_fill bodies t none_left = none_left
leaves_out_fill bodies t (kept_one l) = kept_one (leaves_out_fill bodies t l)
leaves_out_fill bodies t {slots} (left_one_out {t = u} e l) = grind (arith, left_one_out, fill_keeps, leaves_out_fill bodies t l)

-- up to the first that is kept, all are skipped
all_out : (bodies : List (List Item)) (done : Slots → Bool) {slots : Slots} {ts : List Task} → LeavesOut slots ts [] →
    Walks bodies done ts slots slots
all_out bodies done none_left = ends
all_out bodies done (left_one_out e l) = skips e (all_out bodies done l)

up_to_kept : (bodies : List (List Item)) (done : Slots → Bool) {slots : Slots} {ts us : List Task} {u : Task} (final : Slots) →
    LeavesOut slots ts (u ∷ us) →
    ((rest : List Task) → LeavesOut slots rest us → Walks bodies done (u ∷ rest) slots final) →
    Walks bodies done ts slots final
up_to_kept bodies done final (kept_one {all = rest} l) k = k rest l
up_to_kept bodies done final (left_one_out e l) k = skips e (up_to_kept bodies done final l k)

pub walks_with : (bodies : List (List Item)) (done : Slots → Bool) {us : List Task} {slots final : Slots} →
    Walks bodies done us slots final → (ts : List Task) → LeavesOut slots ts us → Walks bodies done ts slots final
walks_with bodies done ends ts l = all_out bodies done l
walks_with bodies done (stops d) ts l = stops d
walks_with bodies done (skips {final = final} e w) ts l =
    up_to_kept bodies done final l (λ rest k. skips e (walks_with bodies done w rest k))
walks_with bodies done (fills {t = t} {final = final} d e w) ts l =
    up_to_kept bodies done final l
    (λ rest k. fills d e
    (walks_with bodies done w (opened bodies t ++ rest) (grind (arith, leaves_out_append, leaves_none, leaves_out_fill))))

-- items whose slots are filled may be left out
leaves_item : (slots : Slots) (origin : Origin) (cause : Option ℕ) (i : Item) (items : List Item) →
    LeavesOut slots (tasks_in origin cause items) (tasks_in origin cause (free_items slots items)) →
    LeavesOut slots (tasks_in origin cause (i ∷ items)) (tasks_in origin cause (free_items slots (i ∷ items)))
leaves_item slots origin cause i items rest =
    ⊎_elim
    (λ (r : (x : Answer) × (slots i.attribute ≡ Some x)).
    let t : Task = record { origin = origin; item = i; cause = cause } in
    let out : LeavesOut slots (t ∷ []) [] = left_one_out {t = t} (grind arith) none_left in
    grind (arith, append-nil, leaves_out_append rest out))
    (λ (e : slots i.attribute ≡ None). rw e (leaves_out_append rest (kept_one none_left)))
    (some_or_none (slots i.attribute))

leaves_filled : (slots : Slots) (origin : Origin) (cause : Option ℕ) (items : List Item) →
    LeavesOut slots (tasks_in origin cause items) (tasks_in origin cause (free_items slots items))
leaves_filled slots origin cause [] = none_left
leaves_filled slots origin cause (i ∷ items) = grind (arith, leaves_item, leaves_filled slots origin cause items)

pub walks_past : (bodies : List (List Item)) (done : Slots → Bool) (slots final : Slots) (origin : Origin) (cause : Option ℕ) (items : List Item)
    (rest : List Task) →
    Walks bodies done (tasks_in origin cause (free_items slots items) ++ rest) slots final →
    Walks bodies done (tasks_in origin cause items ++ rest) slots final
walks_past bodies done slots final origin cause items rest w = grind (arith, walks_with, leaves_out_append, leaves_filled, leaves_none)

-- a task is taken whose slot is filled
pub taken_skip : (bodies : List (List Item)) (wanted : List ℕ) (t : Task) (ts : List Task) (before after : Slots) (a b c : ℕ) →
    b ≡ min (a + 1) top → is_some (before t.item.attribute) ≡ true →
    Searches bodies wanted ts before after b c → Searches bodies wanted (t ∷ ts) before after a c
taken_skip bodies wanted t ts before after a b c counted filled p = grind (arith, skips)

-- a task fills its slot, and the free items of its body come next
pub taken_fill : (bodies : List (List Item)) (wanted : List ℕ) (t : Task) (on_stack ts : List Task) (before after : Slots) (a b c : ℕ) →
    b ≡ min (a + 1) top → is_done wanted before ≡ false → is_some (before t.item.attribute) ≡ false →
    length on_stack ≤ length (body_of bodies t.item.attribute) →
    (Walks bodies (is_done wanted) (on_stack ++ ts) (fill bodies t before) after →
    Walks bodies (is_done wanted) (opened bodies t ++ ts) (fill bodies t before) after) →
    Searches bodies wanted (on_stack ++ ts) (fill bodies t before) after b c →
    Searches bodies wanted (t ∷ ts) before after a c
taken_fill bodies wanted t on_stack ts before after a b c counted undone empty short all p =
    let one = newly_one before (fill bodies t before) t.item.attribute in
    record {
      walks = fills undone empty (all p.walks);
      most = omega (arith, length-append on_stack ts, left_in-fill bodies t before empty, p.most);
      least = λ n. grind (arith, newly_filled-through before (fill bodies t before) after n, fill_other, one n);
    }

-- the same for a task that does not set its attribute, and for one that does
pub taken_closed : (bodies : List (List Item)) (wanted : List ℕ) (t : Task) (ts : List Task) (before next after : Slots) (a b c : ℕ) →
    next ≡ fill bodies t before → expands t.item.state ≡ false → is_some (before t.item.attribute) ≡ false →
    is_done wanted before ≡ false → b ≡ min (a + 1) top →
    Searches bodies wanted ts next after b c → Searches bodies wanted (t ∷ ts) before after a c
taken_closed bodies wanted t ts before next after a b c is closed empty undone counted p =
    grind (arith, taken_fill bodies wanted t [] ts before after a b c)

pub taken_open : (bodies : List (List Item)) (wanted : List ℕ) (t : Task) (body : List Item) (ts us : List Task) (before next after : Slots)
    (a b c : ℕ) →
    next ≡ fill bodies t before → expands t.item.state ≡ true → is_some (before t.item.attribute) ≡ false →
    body_of bodies t.item.attribute ≡ body →
    us ≡ tasks_in t.origin (Some t.item.attribute) (free_items next body) ++ ts →
    is_done wanted before ≡ false → b ≡ min (a + 1) top →
    Searches bodies wanted us next after b c → Searches bodies wanted (t ∷ ts) before after a c
taken_open bodies wanted t body ts us before next after a b c is set empty body_is on_stack undone counted p =
    let free = free_items (fill bodies t before) body in
    taken_fill bodies wanted t (tasks_in t.origin (Some t.item.attribute) free) ts before after a b c
    counted undone empty (grind (arith, length-tasks_in, length-free))
    (λ w. grind (arith, walks_past))
    (rw (on_stack, is) at p)

pub left_in-open : (bodies : List (List Item)) (t : Task) (body : List Item) (before next : Slots) (m n : ℕ) →
    next ≡ fill bodies t before → is_some (before t.item.attribute) ≡ false → body_of bodies t.item.attribute ≡ body →
    n ≤ m + length body → n + left_in bodies next ≤ m + left_in bodies before
left_in-open bodies t body before next m n is empty body_is le = grind (arith, left_in-less)

-- items of which none is free are passed over
pub row_filled : (bodies : List (List Item)) (wanted : List ℕ) (origin : Origin) (cause : Option ℕ) (items : List Item) (slots : Slots) (taken : ℕ) →
    free_items slots items ≡ [] → Searches bodies wanted (tasks_in origin cause items) slots slots taken taken
row_filled bodies wanted origin cause items slots taken none =
    let past = walks_past bodies (is_done wanted) slots slots origin cause items [] (rw none ends) in
    grind (arith, append-nil, newly_filled-same)

-- the free ones are processed
pub row_searched : (bodies : List (List Item)) (wanted : List ℕ) (origin : Origin) (cause : Option ℕ) (items : List Item) (ts : List Task)
    (before after : Slots) (a b : ℕ) →
    ts ≡ tasks_in origin cause (free_items before items) → Searches bodies wanted ts before after a b →
    Searches bodies wanted (tasks_in origin cause items) before after a b
row_searched bodies wanted origin cause items ts before after a b on_stack p =
    let walks = p.walks in
    let free : Walks bodies (is_done wanted) (tasks_in origin cause (free_items before items) ++ []) before after = rw append-nil
    (rw on_stack at walks) in
    grind (arith, walks_past, length-tasks_in, length-free, append-nil)

-- The slots and the stack of the plain search, in the terms of the walk.
use Rattle.std.proofs.Common.{◌≡◌, ℕ, ◌+◌, ◌<◌, ◌≤◌, List, [], ◌∷◌, ◌++◌, length, get_or, set, take, map, Option, Some, None, refl, sym, ap, ◌∙◌}
use Rattle.std.proofs.Common.{⊎_elim, arith, Bool, true, false}
use Rattle.std.specs.Prelude.{is_some, is_none, option_map, not, ◌==◌}
use Rattle.std.specs.Borrow.{Bor}
use Rattle.std.proofs.Math.ListN
use Rattle.std.specs.List.{list_any}
use Rattle.std.proofs.lemmas.Grind.{common_steps}
use Rattle.std.proofs.lemmas.Bool.Decides.{nat_tests}
use Rattle.std.proofs.lemmas.Bool.{cases_Bool, cases_eq, eq-eqb, ne_eqb, or_parts, cases_lt}
use Rattle.std.proofs.lemmas.List.{get_or-map, map-set, length-map, map-append, take_more, append-nil, length-append, get_or_past}
use Rattle.std.proofs.lemmas.List.{get_or-set_same, get_or-set_other}
use Rattle.std.proofs.lemmas.List.Elements.{All-nil, All-push, All-pop}
use Rattle.std.proofs.lemmas.List.Folds.{list_all_more, list_all_at}
use Rattle.attr_table.specs.Setting.{Answer, Item, Origin, body_of}
use Rattle.attr_table.specs.Table.{Slots, slots_in}
use Rattle.attr_table.specs.Cut.{is_done, is_filled, answer_of, no_answers}
use Rattle.attr_table.specs.shared.Walk.{Task, tasks_in, line_tasks, fill, Searches}
use Rattle.attr_vectors.specs.inner.Plain.{plain_answer, plain_item, plain_items, plain_origin, plain_answers, plain_bodies, plain_task, plain_tasks}
use Rattle.attr_vectors.specs.inner.Plain.{free_items, plain_line, TasksHaveSlots, KeepsInput}
use Rattle.attr_vectors.specs.declared.plain.Row.{Row}
use Rattle.attr_vectors.specs.declared.plain.Origin.{Origin as PlainOrigin}
use Rattle.attr_vectors.specs.declared.plain.Item.{Item as PlainItem}
use Rattle.attr_vectors.specs.declared.plain.Answer.{Answer as PlainAnswer}
use Rattle.attr_vectors.specs.declared.plain.Task.{Task as PlainTask}
use Rattle.attr_vectors.specs.declared.plain.SearchState.{SearchState}
use Rattle.attr_table.proofs.ForCallers.{backwards-append, length-tasks_in, nothing_taken}
use Rattle.attr_vectors.proofs.FreeTasks.{tasks_push, tasks_pass, length-free, row_filled, row_searched}

pub plain_answers-at : (slots : List (Option PlainAnswer)) (a : ℕ) →
    plain_answers slots a ≡ option_map plain_answer (get_or slots a None)
plain_answers-at slots a = ListN.get_or-map (λ slot. option_map plain_answer slot) slots a None

is_some-map : (slot : Option PlainAnswer) → is_some (option_map plain_answer slot) ≡ is_some slot
is_some-map None = refl
is_some-map (Some x) = refl

pub filled_at : (slots : List (Option PlainAnswer)) (a : ℕ) → is_some (plain_answers slots a) ≡ is_some (get_or slots a None)
filled_at slots a = let e = plain_answers-at slots a in rw e (is_some-map (get_or slots a None))

pub not_done_at : (wanted : List ℕ) (slots : List (Option PlainAnswer)) (i : ℕ) → i < length wanted →
    is_some (get_or slots (get_or wanted i 0) None) ≡ false → false ≡ is_done wanted (plain_answers slots)
not_done_at wanted slots i lt e =
    sym (list_all_at (λ w. is_some (plain_answers slots w)) wanted i 0 lt (filled_at slots (get_or wanted i 0) ∙ e))

pub done_more : (wanted : List ℕ) (slots : List (Option PlainAnswer)) (i : ℕ) → i < length wanted →
    is_some (get_or slots (get_or wanted i 0) None) ≡ true → is_done (take i wanted) (plain_answers slots) ≡ true →
    is_done (take (i + 1) wanted) (plain_answers slots) ≡ true
done_more wanted slots i lt e before =
    let r = list_all_more (λ w. is_some (plain_answers slots w)) wanted i 0 lt in
    let f = filled_at slots (get_or wanted i 0) in
    rw (r, before, f, e) refl

is_filled-seen : (items : List PlainItem) (empty : Bool) → empty ≡ (length items == 0) →
    not empty ≡ is_filled (plain_items items)
is_filled-seen [] empty e = rw e refl
is_filled-seen (i ∷ items) empty e = grind (arith, nat_tests, ne_eqb)

pub body_of-seen : (bodies : List (Bor (List PlainItem))) (a : ℕ) (d : Bor (List PlainItem)) → a < length bodies →
    body_of (plain_bodies bodies) a ≡ plain_items (get_or bodies a d).now
body_of-seen bodies a d lt = get_or-map (λ (body : Bor (List PlainItem)). plain_items body.now) bodies a d [] lt

-- a write to a row of slots
slots_in-fill : (bodies : List (List Item)) (t : Task) (slots : List (Option Answer)) → t.item.attribute < length slots →
    slots_in (set slots t.item.attribute (Some (answer_of bodies t.origin t.item t.cause))) ≡ fill bodies t (slots_in slots)
slots_in-fill bodies t slots lt = grind (arith, nat_tests, eq-eqb, get_or-set_same, ne_eqb, get_or-set_other, cases_eq)

pub fill-seen : (bodies : List (Bor (List PlainItem))) (t : PlainTask) (slots : List (Option PlainAnswer)) (d : Bor (List PlainItem)) (empty : Bool) →
    length bodies ≡ length slots → t.item.attribute < length slots →
    empty ≡ (length (get_or bodies t.item.attribute d).now == 0) →
    plain_answers (set slots t.item.attribute (Some (record {
      origin = t.origin;
      assignment = t.item;
      is_macro = not empty;
      cause = t.cause;
    }))) ≡ fill (plain_bodies bodies) (plain_task t) (plain_answers slots)
fill-seen bodies t slots d empty same lt e =
    let x : PlainAnswer = record { origin = t.origin; assignment = t.item; is_macro = not empty; cause = t.cause } in
    let seen : plain_answer x ≡ answer_of (plain_bodies bodies) (plain_origin t.origin) (plain_item t.item) t.cause =
    let m = is_filled-seen (get_or bodies t.item.attribute d).now empty e in
    let b = body_of-seen bodies t.item.attribute d (omega arith) in
    rw (m, b) refl in
    let all = map (λ slot. option_map plain_answer slot) slots in
    let fits : t.item.attribute < length all =
    let l = length-map slots (λ (slot : Option PlainAnswer). option_map plain_answer slot) in omega arith in
    ap (λ xs. slots_in xs) (map-set (λ slot. option_map plain_answer slot) slots t.item.attribute (Some x))
    ∙ (ap (λ y. slots_in (set all t.item.attribute (Some y))) seen
    ∙ slots_in-fill (plain_bodies bodies) (plain_task t) all fits)

pub items_more : (items : List PlainItem) (k : ℕ) (d : PlainItem) → k < length items →
    plain_items (take (k + 1) items) ≡ plain_items (take k items) ++ plain_item (get_or items k d) ∷ []
items_more items k d lt = grind (arith, common_steps, take_more, map-append)

pub plain_tasks-push : (stack : List PlainTask) (t : PlainTask) → plain_tasks (stack ++ t ∷ []) ≡ plain_task t ∷ plain_tasks stack
plain_tasks-push stack t = backwards-append (λ t. plain_task t ∷ []) stack (t ∷ [])

-- one more item is pushed, or left out
pub pushed_more : (before stack after : List PlainTask) (slots : List (Option PlainAnswer)) (origin : PlainOrigin) (cause : Option ℕ)
    (items : List PlainItem) (k : ℕ) (d : PlainItem) →
    k < length items → is_some (get_or slots (get_or items k d).attribute None) ≡ false →
    after ≡ stack ++ record { origin = origin; item = get_or items k d; cause = cause } ∷ [] →
    plain_tasks stack
    ≡ tasks_in (plain_origin origin) cause (free_items (plain_answers slots) (plain_items (take k items))) ++ plain_tasks before →
    plain_tasks after
    ≡ tasks_in (plain_origin origin) cause (free_items (plain_answers slots) (plain_items (take (k + 1) items))) ++ plain_tasks before
pushed_more before stack after slots origin cause items k d lt free pushed on_stack =
    let t : PlainTask = record { origin = origin; item = get_or items k d; cause = cause } in
    let more = items_more items k d lt in
    let push = tasks_push (plain_answers slots) (plain_origin origin) cause (plain_items (take k items))
    (plain_item (get_or items k d)) (filled_at slots (get_or items k d).attribute ∙ free) in
    rw (pushed, more, push) (plain_tasks-push stack t ∙ ap (λ ts. plain_task t ∷ ts) on_stack)

pub pushed_same : (before stack after : List PlainTask) (slots : List (Option PlainAnswer)) (origin : PlainOrigin) (cause : Option ℕ)
    (items : List PlainItem) (k : ℕ) (d : PlainItem) →
    k < length items → is_some (get_or slots (get_or items k d).attribute None) ≡ true → after ≡ stack →
    plain_tasks stack
    ≡ tasks_in (plain_origin origin) cause (free_items (plain_answers slots) (plain_items (take k items))) ++ plain_tasks before →
    plain_tasks after
    ≡ tasks_in (plain_origin origin) cause (free_items (plain_answers slots) (plain_items (take (k + 1) items))) ++ plain_tasks before
pushed_same before stack after slots origin cause items k d lt filled same on_stack =
    let more = items_more items k d lt in
    let pass = tasks_pass (plain_answers slots) (plain_origin origin) cause (plain_items (take k items))
    (plain_item (get_or items k d)) (filled_at slots (get_or items k d).attribute ∙ filled) in
    rw (same, more, pass) on_stack

pub slots_push : (n : ℕ) (stack after : List PlainTask) (t : PlainTask) → after ≡ stack ++ t ∷ [] →
    t.item.attribute < n → TasksHaveSlots n stack → TasksHaveSlots n after
slots_push n stack after t e lt all = grind (arith, common_steps, All-push)

pub length-plain_tasks : (stack : List PlainTask) → length (plain_tasks stack) ≡ length stack
length-plain_tasks [] = refl
length-plain_tasks (t ∷ stack) = grind (arith, nat_tests, length-append, length-plain_tasks stack)

-- no more tasks are pushed than there are items
pub length-pushed : (stack after : List PlainTask) (slots : Slots) (origin : Origin) (cause : Option ℕ) (items : List Item) →
    plain_tasks after ≡ tasks_in origin cause (free_items slots items) ++ plain_tasks stack →
    length after ≤ length stack + length items
length-pushed stack after slots origin cause items on_stack =
    grind (arith, nat_tests, length-plain_tasks, length-append, length-tasks_in, length-free)

pub plain_tasks-none : (stack : List PlainTask) → length stack ≡ 0 → plain_tasks stack ≡ []
plain_tasks-none [] e = refl
plain_tasks-none (t ∷ stack) e = absurd (omega arith)

-- the top of a stack comes first
pub plain_tasks-top : (stack rest : List PlainTask) (t : PlainTask) → stack ≡ rest ++ t ∷ [] →
    plain_tasks stack ≡ plain_task t ∷ plain_tasks rest
plain_tasks-top stack rest t e = rw e (plain_tasks-push rest t)

pub slots_top : (n : ℕ) (stack rest : List PlainTask) (t : PlainTask) → stack ≡ rest ++ t ∷ [] →
    TasksHaveSlots n stack → TasksHaveSlots n rest
slots_top n stack rest t e all = (All-pop (λ (t : PlainTask). t.item.attribute < n) stack rest (Some t) e all).0

pub no_tasks : (n : ℕ) (stack : List PlainTask) → stack ≡ [] → TasksHaveSlots n stack
no_tasks n stack e = rw e (All-nil (λ (t : PlainTask). t.item.attribute < n))

pub none_free : (slots : Slots) (items : List PlainItem) →
    list_any (λ i. is_none (slots i.attribute)) items ≡ false → free_items slots (plain_items items) ≡ []
none_free slots [] e = refl
none_free slots (i ∷ items) e = grind (arith, nat_tests, or_parts, none_free slots items)

-- a line without a free item, one that does not match, and one whose items are processed
pub line_filled : (bodies : List (List Item)) (wanted : List ℕ) (row : Row) (slots : Slots) (taken : ℕ) →
    list_any (λ i. is_none (slots i.attribute)) row.items.now ≡ false →
    Searches bodies wanted (line_tasks (plain_line row)) slots slots taken taken
line_filled bodies wanted row slots taken none =
    ⊎_elim
    (λ (e : row.is_match ≡ true).
    rw e (row_filled bodies wanted (plain_origin row.origin) None (plain_items row.items.now) slots taken
    (none_free slots row.items.now none)))
    (λ (e : row.is_match ≡ false). rw e (nothing_taken bodies wanted slots taken))
    (cases_Bool row.is_match)

pub line_unmatched : (bodies : List (List Item)) (wanted : List ℕ) (row : Row) (slots : Slots) (taken : ℕ) →
    row.is_match ≡ false → Searches bodies wanted (line_tasks (plain_line row)) slots slots taken taken
line_unmatched bodies wanted row slots taken e = rw e (nothing_taken bodies wanted slots taken)

pub line_searched : (bodies : List (List Item)) (wanted : List ℕ) (row : Row) (stack on_stack : List PlainTask) (before after : Slots) (a b : ℕ) →
    row.is_match ≡ true → stack ≡ [] →
    plain_tasks on_stack
    ≡ tasks_in (plain_origin row.origin) None (free_items before (plain_items row.items.now)) ++ plain_tasks stack →
    Searches bodies wanted (plain_tasks on_stack) before after a b →
    Searches bodies wanted (line_tasks (plain_line row)) before after a b
line_searched bodies wanted row stack on_stack before after a b e empty is p =
    rw e (row_searched bodies wanted (plain_origin row.origin) None (plain_items row.items.now) (plain_tasks on_stack) before after
    a b (rw (empty, append-nil) at is) p)

-- a search with the same bodies and wanted attributes
module _ (s s' : SearchState) (same : KeepsInput s s') {ts : List Task} {before after : Slots} {a b : ℕ} where
  pub searches_before : Searches (plain_bodies s'.bodies.now) s'.wanted.now ts before after a b →
      Searches (plain_bodies s.bodies.now) s.wanted.now ts before after a b
  searches_before p = grind (arith, nat_tests)

  pub searches_after : Searches (plain_bodies s.bodies.now) s.wanted.now ts before after a b →
      Searches (plain_bodies s'.bodies.now) s'.wanted.now ts before after a b
  searches_after p = grind (arith, nat_tests)

-- empty slots have no answers
pub plain_answers-empty : (slots : List (Option PlainAnswer)) →
    ((k : ℕ) → k < length slots → get_or slots k None ≡ None) → plain_answers slots ≡ no_answers
plain_answers-empty slots empty = grind (arith, nat_tests, plain_answers-at, get_or_past, cases_lt)

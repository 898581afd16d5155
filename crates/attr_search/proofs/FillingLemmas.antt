-- What filling slots by numbered items reads and writes, in the terms of the table.
use Rattle.std.proofs.Common.{◌≡◌, ℕ, zero, suc, ◌+◌, ◌<◌, ◌≤◌, List, [], ◌∷◌, ◌++◌, length, get_or, take, drop, map, Option, Some, None, refl, ap}
use Rattle.std.proofs.Common.{◌∙◌, rules, arith, Bool, ◌||◌, true, false}
use Rattle.std.specs.Prelude.{is_some, not, ◌==◌, All, slice_index_or, if◌then◌else◌}
use Rattle.std.proofs.Math.ListN
use Rattle.std.proofs.lemmas.Grind.{common_steps}
use Rattle.std.proofs.lemmas.Bool.{false≢true, cases_eq, eq-eqb, ne_eqb}
use Rattle.std.proofs.lemmas.List.{map-append, get_or-set_same, get_or-set_other, length-set, length-take, take_all, append_assoc}
use Rattle.std.proofs.lemmas.List.{append-nil, length-append, length-map, drop_more, get_or-take}
use Rattle.std.proofs.lemmas.List.Elements.{All-cons, All-map, All-pop, All-same}
use Rattle.std.proofs.lemmas.List.Sums.{sum_by-append}
use Rattle.attr_lists.specs.declared.types.TrackedAssignment.{TrackedAssignment}
use Rattle.attr_table.specs.Setting.{Item, Origin, body_of}
use Rattle.attr_table.specs.Table.{Slots}
use Rattle.attr_table.specs.Cut.{is_done, is_filled}
use Rattle.attr_table.specs.shared.Walk.{Task, expands, opened, tasks_in, fill}
use Rattle.attr_table.proofs.ForCallers.{backwards-append, fills_task, left_in-less, nothing_taken, passes_items}
use Rattle.attr_search.specs.declared.item_index.ItemIndex.{ItemIndex}
use Rattle.attr_search.specs.Slots.{table_item, table_items, table_state}
use Rattle.attr_search.specs.SearchContents.{SearchContents}
use Rattle.attr_search.specs.shared.SlotContents.{open_slots}
use Rattle.attr_search.proofs.OpenLemmas.{open_needed}
use Rattle.attr_search.specs.declared.matching_line.MatchingLine.{MatchingLine}
use Rattle.attr_search.specs.inner.Filling.{AtLine, Fills, FillsBy, FillsItem, FillsTo, LeadsTo, own_item, steps_left, tasks_left}
use Rattle.attr_search.specs.inner.Searched.{KeepsState, state_bodies, state_wanted}
use Rattle.attr_search.specs.inner.Pending.{AreFilled, IsLastFree, HasItemsBefore, line_origin, items_beside, no_item}
use Rattle.attr_search.specs.inner.Pending.{end_of_body, stacked_tasks, task_at, tasks_before}

-- the bodies in the table
pub body_table : (bs : List (List TrackedAssignment)) (a : ℕ) → body_of (map table_items bs) a ≡ table_items (slice_index_or bs a [])
body_table bs a = ListN.get_or-map table_items bs a []

is_filled-table : (items : List TrackedAssignment) → not (length items == 0) ≡ is_filled (table_items items)
is_filled-table [] = refl
is_filled-table (i ∷ items) = grind (arith, ne_eqb)

item_opened : {line : MatchingLine} {at : ItemIndex} {before after : SearchContents} → FillsItem line at before after →
    open_slots after ≡ fill (state_bodies before) (task_at (line_origin line) line.items.now before.bodies at) (open_slots before)
item_opened {line} {at} {before} {after} p =
    grind (arith, open_needed, is_filled-table, body_table, get_or-set_same, eq-eqb, get_or-set_other, ne_eqb, cases_eq)

-- the rest is kept
pub fills_kept : {line : MatchingLine} {at : ItemIndex} (before after : SearchContents) → FillsItem line at before after → KeepsState before after
fills_kept {line} {at} before after p = grind (arith, length-set, open_needed, false≢true, get_or-set_other)

pub fills_by : {line : MatchingLine} {at : ItemIndex} (before after : SearchContents) →
    FillsItem line at before after → FillsBy line.items.now before after
fills_by {line} {at} before after p = grind (arith, common_steps)

-- some first items, of which one is at an index
take_split : {X : Type 0} (xs : List X) (i e : ℕ) (d : X) → i < e → e ≤ length xs → take e xs ≡ take i xs ++ get_or xs i d ∷ drop (i + 1) (take e xs)
take_split [] i e d lt le = absurd (omega arith)
take_split (x ∷ xs) i zero d lt le = absurd (omega arith)
take_split (x ∷ xs) zero (suc e) d lt le = refl
take_split (x ∷ xs) (suc i) (suc e) d lt le = grind (arith, take_split xs i e d)

-- the tasks before an index: those of the items after one of them, its own, and those of the items before it
split_tasks : (origin : Origin) (items : List TrackedAssignment) (bodies : List (List TrackedAssignment)) (at own : ItemIndex) →
    HasItemsBefore items bodies at → own.cause ≡ at.cause → own.index < at.index →
    tasks_before origin items bodies at
    ≡ tasks_in origin at.cause (table_items (drop (own.index + 1) (take at.index (items_beside items bodies at.cause))))
    ++ task_at origin items bodies own ∷ tasks_before origin items bodies own
split_tasks origin items bodies at own within same lt =
    let xs = items_beside items bodies at.cause in
    let i = get_or xs own.index no_item in
    let rest = drop (own.index + 1) (take at.index xs) in
    let task : Item → Task = λ i. record { origin = origin; item = i; cause = at.cause } in
    let parts = ap (λ l. tasks_in origin at.cause (table_items l)) (take_split xs own.index at.index no_item lt within.index)
    ∙ ap (tasks_in origin at.cause) (map-append table_item (take own.index xs) (i ∷ rest))
    ∙ backwards-append (λ i. task i ∷ []) (table_items (take own.index xs)) (table_item i ∷ table_items rest)
    ∙ append_assoc (tasks_in origin at.cause (table_items rest)) (task (table_item i) ∷ [])
    (tasks_in origin at.cause (table_items (take own.index xs))) in
    rw same parts

-- filled items are filled in the table
pub filled_items : (slots : Slots) (items : List TrackedAssignment) → AreFilled slots items →
    All (λ i. is_some (slots i.attribute) ≡ true) (table_items items)
filled_items slots items filled = All-map (λ i. is_some (slots i.attribute) ≡ true) table_item items filled

-- the end of a body is told
no_end : (number : ℕ) (is_expanded : Bool) (body : List TrackedAssignment) →
    if◌then◌else◌ {A = Option ItemIndex} (not is_expanded || length body == 0) None (Some (record { cause = Some number; index = length body }))
    ≡ None →
    is_expanded ≡ true → body ≡ []
no_end number is_expanded [] none sets = refl
no_end number is_expanded (i ∷ body) none sets =
    let d = ne_eqb (length (i ∷ body)) 0 (λ (f : length (i ∷ body) ≡ 0). omega arith) in
    absurd (grind arith)

some_end : (bodies : List (List TrackedAssignment)) (number : ℕ) (is_expanded : Bool) (next : ItemIndex) →
    end_of_body bodies number is_expanded ≡ Some next →
    (is_expanded ≡ true) × (next ≡ record { cause = Some number; index = length (slice_index_or bodies number []) })
some_end bodies number is_expanded next ends = grind arith

-- what the top of the stack comes after
stacked_top : (origin : Origin) (items : List TrackedAssignment) (bodies : List (List TrackedAssignment)) (rest : List ItemIndex) (top : ItemIndex) →
    stacked_tasks origin items bodies (rest ++ top ∷ []) ≡ tasks_before origin items bodies top ++ stacked_tasks origin items bodies rest
stacked_top origin items bodies rest top = backwards-append (tasks_before origin items bodies) rest (top ∷ [])

-- where all items before the index at hand are filled, those before the top of the stack come next
pub leads_pop : (line : MatchingLine) (state : SearchContents) (at top : ItemIndex) (stack rest : List ItemIndex) →
    AreFilled (open_slots state) (take at.index (items_beside line.items.now state.bodies at.cause)) → stack ≡ rest ++ top ∷ [] →
    LeadsTo line state at stack state top rest
leads_pop line state at top stack rest filled is final later p =
    let origin = line_origin line in
    let xs = take at.index (items_beside line.items.now state.bodies at.cause) in
    rw (is, stacked_top origin line.items.now state.bodies rest top)
    (passes_items (state_bodies state) (state_wanted state) origin at.cause (table_items xs) (tasks_left line state top rest)
    (open_slots state) final state.taken later (filled_items (open_slots state) xs filled) p)

-- and with nothing on the stack nothing is left
pub ends_line : (line : MatchingLine) (state : SearchContents) (at : ItemIndex) (stack : List ItemIndex) →
    AreFilled (open_slots state) (take at.index (items_beside line.items.now state.bodies at.cause)) → length stack ≡ 0 →
    FillsTo line state at stack (open_slots state) state.taken
ends_line line state at [] filled e =
    let xs = take at.index (items_beside line.items.now state.bodies at.cause) in
    passes_items (state_bodies state) (state_wanted state) (line_origin line) at.cause (table_items xs) [] (open_slots state) (open_slots state)
    state.taken state.taken (filled_items (open_slots state) xs filled)
    (nothing_taken (state_bodies state) (state_wanted state) (open_slots state) state.taken)
ends_line line state at (top ∷ stack) filled e = absurd (omega arith)

-- an item fills its slot, and what it opens comes next
leads_on : {line : MatchingLine} {own : ItemIndex} (before after : SearchContents) (at next : ItemIndex) (stack left : List ItemIndex) →
    FillsItem line own before after → HasItemsBefore line.items.now before.bodies at → own.cause ≡ at.cause →
    IsLastFree (open_slots before) (items_beside line.items.now before.bodies at.cause) at.index own.index →
    is_done (state_wanted before) (open_slots before) ≡ false →
    tasks_left line before next left
    ≡ opened (state_bodies before) (task_at (line_origin line) line.items.now before.bodies own) ++ tasks_left line before own stack →
    LeadsTo line before at stack after next left
leads_on {line} {own} before after at next stack left p within same last undone laid final later q =
    let origin = line_origin line in
    let t = task_at origin line.items.now before.bodies own in
    let rest = drop (own.index + 1) (take at.index (items_beside line.items.now before.bodies at.cause)) in
    let bodies : after.bodies ≡ before.bodies = grind arith in
    let wanted : after.wanted ≡ before.wanted = grind arith in
    let taken : after.taken ≡ before.taken + 1 = grind arith in
    let on = rw (bodies, wanted, taken, laid) at q in
    let filled = fills_task (state_bodies before) (state_wanted before) t (tasks_left line before own stack) (open_slots before) (open_slots after)
    final before.taken later (item_opened p) undone p.free on in
    let passed = passes_items (state_bodies before) (state_wanted before) origin at.cause (table_items rest) (t ∷ tasks_left line before own stack)
    (open_slots before) final before.taken later (filled_items (open_slots before) rest last.others) filled in
    grind (arith, split_tasks origin line.items.now before.bodies at own within same last.before, append_assoc)

-- nothing, if there is no body
pub leads_closed : {line : MatchingLine} {own : ItemIndex} (before after : SearchContents) (at : ItemIndex) (stack : List ItemIndex) →
    FillsItem line own before after → HasItemsBefore line.items.now before.bodies at → own.cause ≡ at.cause →
    IsLastFree (open_slots before) (items_beside line.items.now before.bodies at.cause) at.index own.index →
    is_done (state_wanted before) (open_slots before) ≡ false →
    end_of_body before.bodies (own_item line own before).id.0 (expands (table_state (own_item line own before).inner.state)) ≡ None →
    LeadsTo line before at stack after own stack
leads_closed {line} {own} before after at stack p within same last undone none =
    leads_on before after at own stack stack p within same last undone (grind (arith, no_end, body_table))

-- or the body of its attribute
pub leads_opened : {line : MatchingLine} {own : ItemIndex} (before after : SearchContents) (at next : ItemIndex) (stack : List ItemIndex) →
    FillsItem line own before after → HasItemsBefore line.items.now before.bodies at → own.cause ≡ at.cause →
    IsLastFree (open_slots before) (items_beside line.items.now before.bodies at.cause) at.index own.index →
    is_done (state_wanted before) (open_slots before) ≡ false →
    end_of_body before.bodies (own_item line own before).id.0 (expands (table_state (own_item line own before).inner.state)) ≡ Some next →
    LeadsTo line before at stack after next (stack ++ own ∷ [])
leads_opened {line} {own} before after at next stack p within same last undone ends =
    leads_on before after at next stack (stack ++ own ∷ []) p within same last undone (grind (arith, stacked_top, take_all, body_table))

-- one more item before the end is filled
pub filled_more : (slots : Slots) (items : List TrackedAssignment) (few i : ℕ) (item : TrackedAssignment) → i < few → few ≤ length items →
    item ≡ get_or items i item → is_some (slots item.id.0) ≡ true → AreFilled slots (drop (i + 1) (take few items)) →
    AreFilled slots (drop i (take few items))
filled_more slots items few i item lt le is filled rest = grind (arith, length-take, drop_more, get_or-take, All-same, All-cons)

-- the line goes on from the top of the stack, from an item that was filled, and from the end of a body
pub at_top : {line : MatchingLine} {state : SearchContents} {at : ItemIndex} (top : ItemIndex) {stack : List ItemIndex} (rest : List ItemIndex) →
    AtLine line state at stack → stack ≡ rest ++ top ∷ [] → AtLine line state top rest
at_top {line} {state} top {stack} rest held is =
    let both = All-pop (HasItemsBefore line.items.now state.bodies) stack rest (Some top) is held.inside in
    record { bodies = held.bodies; in_line = held.in_line; within = both.1; inside = both.0; origin = held.origin }

pub at_item : {line : MatchingLine} {at own : ItemIndex} {stack : List ItemIndex} (before after : SearchContents) → AtLine line before at stack →
    FillsItem line own before after → own.cause ≡ at.cause → own.index < at.index → AtLine line after own stack
at_item {line} {at} {own} {stack} before after held p same lt = search (rules, length-set)

pub at_body : {line : MatchingLine} {own next : ItemIndex} {stack : List ItemIndex} (after : SearchContents) (number : ℕ) (is_expanded : Bool) →
    AtLine line after own stack → number < length after.answers → end_of_body after.bodies number is_expanded ≡ Some next →
    AtLine line after next (stack ++ own ∷ [])
at_body {line} {own} {next} {stack} after number is_expanded held lt ends = grind (arith, common_steps)

-- one part after another
pub then_by : {items : List TrackedAssignment} (first second third : SearchContents) → KeepsState first second →
    FillsBy items first second → FillsBy items second third → FillsBy items first third
then_by first second third kept p q = grind arith

-- fewer steps are left
pub fewer_filled : {line : MatchingLine} {own : ItemIndex} (before after : SearchContents) (at : ItemIndex) (stack : List ItemIndex) →
    FillsItem line own before after → own.index < at.index → steps_left after own stack < steps_left before at stack
fewer_filled {line} {own} before after at stack p lt =
    let e = left_in-less (state_bodies before) (task_at (line_origin line) line.items.now before.bodies own) (open_slots before) (open_slots after)
    (item_opened p) p.free in
    let bodies : after.bodies ≡ before.bodies = grind arith in
    rw bodies (omega arith)

pub fewer_opened : {line : MatchingLine} {own : ItemIndex} (before after : SearchContents) (at next : ItemIndex) (stack : List ItemIndex)
    (is_expanded : Bool) →
    FillsItem line own before after → own.index < at.index →
    end_of_body before.bodies (own_item line own before).id.0 is_expanded ≡ Some next →
    steps_left after next (stack ++ own ∷ []) < steps_left before at stack
fewer_opened {line} {own} before after at next stack is_expanded p lt ends =
    let number = (own_item line own before).id.0 in
    let is = (some_end before.bodies number is_expanded next ends).1 in
    let e = left_in-less (state_bodies before) (task_at (line_origin line) line.items.now before.bodies own) (open_slots before) (open_slots after)
    (item_opened p) p.free in
    let size = ap length (body_table before.bodies number) ∙ length-map (slice_index_or before.bodies number []) table_item in
    let bodies : after.bodies ≡ before.bodies = grind arith in
    let sums = sum_by-append (λ w. w.index) stack (own ∷ []) in
    let counts = length-append stack (own ∷ []) in
    rw (bodies, is) (omega (arith, sums, counts, size, e))

-- a line that is gone through from the end of its items on an empty stack fills the slots of its items
pub line_done : (line : MatchingLine) (old fresh now : SearchContents) (stack : List ItemIndex) →
    fresh ≡ record old { line = Some (line_origin line); kept = old.kept + 1 } → stack ≡ [] → KeepsState fresh now →
    FillsBy line.items.now fresh now → FillsTo line fresh (record { cause = None; index = length line.items.now }) stack (open_slots now) now.taken →
    KeepsState old now × Fills line.items.now (tasks_in (line_origin line) None (table_items line.items.now)) old now
line_done line old fresh now stack begun empty kept by p = grind (arith, take_all, append-nil)

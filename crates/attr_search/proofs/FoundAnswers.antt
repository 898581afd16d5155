-- What a whole search leaves, and whether it found what was wanted.
use Rattle.std.proofs.Common.{◌≡◌, ℕ, suc, ◌+◌, ◌<◌, Bool, true, false, ◌&&◌, ◌||◌, List, [], ◌∷◌, length, map, get_or, Option, None, refl}
use Rattle.std.proofs.Common.{sym, ap, ◌∙◌, arith, rules, nat_lt}
use Rattle.std.specs.Prelude.{is_some, is_none, option_map}
use Rattle.std.specs.List.{list_any}
use Rattle.std.proofs.lemmas.List.Folds.{list_any_none}
use Rattle.attr_wildmatch.proofs.ForCallers.{by_test}
use Rattle.attr_table.specs.Setting.{Item, Setting}
use Rattle.attr_table.specs.Table.{Slots}
use Rattle.attr_table.specs.Cut.{is_done, IsSearched, ExtendsCuts}
use Rattle.attr_table.specs.shared.Walk.{Task, Walks, ends, stops, skips, fills, Searches, tasks_of}
use Rattle.attr_table.proofs.ForCallers.{fill_keeps, searched_joined}
use Rattle.attr_search.specs.ListView.{Listed}
use Rattle.attr_search.specs.SearchContents.{SearchContents}
use Rattle.attr_search.specs.declared.path_query.PathQuery.{PathQuery}
use Rattle.attr_search.specs.inner.Lines.{all_lines}
use Rattle.attr_search.specs.inner.Searched.{KeepsState, SearchedLists, state_bodies, state_wanted}
use Rattle.attr_search.proofs.RoundLemmas.{rounds_walked}
use Rattle.attr_search.specs.shared.SlotContents.{AreFlagsAmong, count_remaining, open_slots, remaining_at, wanted_numbers}
use Rattle.attr_search.specs.Slots.{table_answer, slots_of}
use Rattle.attr_search.specs.Settings.{is_found}
use Rattle.attr_search.proofs.OpenLemmas.{flag_needed, narrowed_needed}
use Rattle.attr_search.proofs.SlotLemmas.{is_some_map}

-- slots that are filled stay so
walks_keep : (bodies : List (List Item)) (done : Slots → Bool) {ts : List Task} {before after : Slots} →
    Walks bodies done ts before after → (a : ℕ) → is_some (before a) ≡ true → is_some (after a) ≡ true
walks_keep bodies done ends a e = e
walks_keep bodies done (stops d) a e = e
walks_keep bodies done (skips f w) a e = walks_keep bodies done w a e
walks_keep bodies done (fills {t = t} {slots = slots} d f w) a e = grind (arith, fill_keeps, walks_keep bodies done w a)

none-map : {X Y : Type 0} (f : X → Y) (o : Option X) → is_none (option_map f o) ≡ is_none o
none-map f o = grind arith

any-map : {X Y : Type 0} (p : Y → Bool) (f : X → Y) (xs : List X) → list_any p (map f xs) ≡ list_any (λ x. p (f x)) xs
any-map p f [] = refl
any-map p f (x ∷ xs) = ap (λ b. p (f x) || b) (any-map p f xs)

-- fewer are left where something wanted was found, and else as many
record IsLeft (found : Bool) (old new : ℕ) : Type 0 where
  some : found ≡ true → new < old
  none : found ≡ false → new ≡ old

left_here : {X : Type 0} (w : Bool) (o n : Option X) (rest : Bool) (old new : ℕ) → (w ≡ true → is_some o ≡ true → is_some n ≡ true) →
    IsLeft rest old new → IsLeft ((w && (is_none o && is_some n)) || rest) (remaining_at w o + old) (remaining_at w n + new)
left_here w o n rest old new kept left = grind arith

-- whether a slot was filled
abbrev newly : {X : Type 0} → List (Option X) → List (Option X) → ℕ → Bool
newly old new a = is_none (get_or old a None) && is_some (get_or new a None)

any_wanted : (w : Bool) (flags : List Bool) (p : ℕ → Bool) →
    list_any p (wanted_numbers (w ∷ flags)) ≡ (w && p 0) || list_any (λ a. p (suc a)) (wanted_numbers flags)
any_wanted w flags p = grind (arith, any-map)

left_by : {X : Type 0} (flags : List Bool) (old new : List (Option X)) → length old ≡ length new →
    ((a : ℕ) → get_or flags a false ≡ true → is_some (get_or old a None) ≡ true → is_some (get_or new a None) ≡ true) →
    IsLeft (list_any (newly old new) (wanted_numbers flags)) (count_remaining flags old) (count_remaining flags new)
left_by (w ∷ flags) (o ∷ os) (n ∷ ns) same kept =
    let rest = left_by flags os ns (omega arith) (λ a. kept (suc a)) in
    rw (any_wanted w flags (newly (o ∷ os) (n ∷ ns)))
    (left_here w o n (list_any (newly os ns) (wanted_numbers flags)) (count_remaining flags os) (count_remaining flags ns) (kept 0) rest)
left_by flags old new same kept = grind (arith, list_any_none)

-- a test of the wanted numbers alone
wanted_same : (flags : List Bool) (p q : ℕ → Bool) → ((a : ℕ) → get_or flags a false ≡ true → p a ≡ q a) →
    list_any p (wanted_numbers flags) ≡ list_any q (wanted_numbers flags)
wanted_same [] p q same = refl
wanted_same (w ∷ flags) p q same = grind (arith, any_wanted, wanted_same flags)

-- the slot of a wanted number is seen as it is
wanted_seen : (state : SearchContents) (a : ℕ) → AreFlagsAmong state.wanted state.needed → get_or state.wanted a false ≡ true →
    open_slots state a ≡ slots_of state.answers a
wanted_seen state a among w = grind (arith, narrowed_needed, flag_needed)

-- the answer of a search
pub found_is : (bodies : List (List Item)) (wanted : List ℕ) (ts : List Task) (old new : SearchContents) (left left' a b : ℕ) →
    AreFlagsAmong old.wanted old.needed → Searches bodies wanted ts (open_slots old) (open_slots new) a b → KeepsState old new →
    left ≡ count_remaining old.wanted old.answers → left' ≡ count_remaining new.wanted new.answers →
    nat_lt left' left ≡ is_found (state_wanted old) (open_slots old) (open_slots new)
found_is bodies wanted ts old new left left' a b among p same e e' =
    let flags = old.wanted in
    let new_among : AreFlagsAmong new.wanted new.needed = rw (same.wanted, same.needed) among in
    let was : (k : ℕ) → get_or flags k false ≡ true → open_slots old k ≡ slots_of old.answers k = λ k w. wanted_seen old k among w in
    let is : (k : ℕ) → get_or flags k false ≡ true → open_slots new k ≡ slots_of new.answers k =
    λ k w. wanted_seen new k new_among (ap (λ f. get_or f k false) same.wanted ∙ w) in
    let some_was : (k : ℕ) → is_some (slots_of old.answers k) ≡ is_some (get_or old.answers k None) =
    λ k. is_some_map (table_answer k) (get_or old.answers k None) in
    let some_is : (k : ℕ) → is_some (slots_of new.answers k) ≡ is_some (get_or new.answers k None) =
    λ k. is_some_map (table_answer k) (get_or new.answers k None) in
    let kept : (k : ℕ) → get_or flags k false ≡ true → is_some (get_or old.answers k None) ≡ true → is_some (get_or new.answers k None) ≡ true =
    λ k w t. sym (some_is k) ∙ sym (ap is_some (is k w)) ∙ walks_keep bodies (is_done wanted) p.walks k (ap is_some (was k w) ∙ some_was k ∙ t) in
    let l = left_by flags old.answers new.answers (sym same.len) kept in grind (arith, wanted_same, none-map, by_test, nat_lt)

pub nothing_found : (wanted : List ℕ) (slots : Slots) → false ≡ is_found wanted slots slots
nothing_found wanted slots = grind (arith, list_any_none)

-- the slots after a search, over other lists that were searched before
pub extends : (s : Setting) (wanted : List ℕ) (before after : Slots) → IsSearched s wanted before after →
    ExtendsCuts s.lists s.bodies wanted before after
extends s wanted before after searched = search (rules, searched_joined)

-- the counts of a state say nothing of what is kept
pub counted_from : (before after : SearchContents) (taken tested : ℕ) → KeepsState (record before { taken = taken; tested = tested }) after →
    KeepsState before after
counted_from before after taken tested kept = grind arith

-- lists that were searched are searched by the tasks of their setting
pub searched_as : (query : PathQuery) (lists : List Listed) {before after : SearchContents} → SearchedLists query lists before after →
    Searches (state_bodies before) (state_wanted before) (tasks_of (all_lines query lists)) (open_slots before) (open_slots after)
    before.taken after.taken
searched_as query lists {before} p = rounds_walked (state_bodies before) (state_wanted before) (all_lines query lists) p.rounds

-- The laws of searches, from the laws of the table.
use Rattle.std.proofs.lemmas.Bool.Decides.{nat_tests}
use Rattle.std.proofs.Common.{◌≡◌, ◌⊎◌, ◌↔◌, ℕ, suc, ◌+◌, ◌<◌, ◌==◌, ◌||◌, Bool, true, false, List, [], ◌∷◌, ◌++◌, length, get_or, map, replicate}
use Rattle.std.proofs.Common.{filter, All, Option, Some, None, MatchOption, option_map, refl, sym, ap, ◌∙◌, arith}
use Rattle.std.proofs.Math.Path.{subst, fun_ext}
use Rattle.std.specs.Prelude.{◌&&◌, is_some, option_and_then, slice_get}
use Rattle.std.specs.List.{Contains, list_any, range_with_len}
use Rattle.std.proofs.lemmas.List.Elements.{All-head, All-tail}
use Rattle.std.proofs.lemmas.Bool.{cond_both}
use Rattle.std.proofs.lemmas.List.FromFn.{get_or-range_with_len, length-range_with_len}
use Rattle.std.proofs.lemmas.List.Folds.{list_any-from_Any}
use Rattle.std.proofs.lemmas.List.{append-nil}
use Rattle.attr_wildmatch.specs.declared.case.Case.{Case}
use Rattle.attr_lists.specs.ListViews.{Entry}
use Rattle.attr_lists.specs.declared.types.TrackedAssignment.{TrackedAssignment}
use Rattle.attr_table.specs.Setting.{Answer, Item, Line, Origin, Setting}
use Rattle.attr_table.specs.Table.{Inside, IsStable, Occurrence, Root, Slots, Table, item_at, line_at}
use Rattle.attr_table.specs.Cut.{IsCut, IsCutAt, IsSearched, answer_at, full_answer, is_done, no_answers, origin_at}
use Rattle.attr_table.specs.shared.Walk.{list_tasks, tasks_of}
use Rattle.attr_table.proofs.ForCallers.{searched_walked, seen_others, seen_wanted, walked_searched, OneTable-of, narrowed_all}
use Rattle.gix_attributes.specs.Contents.{Content, Wanted, has_number, is_wanted, wanted_of}
use Rattle.attr_search.specs.ListView.{Listed, rest_for}
use Rattle.attr_search.specs.Settings.{gives, line_of, lines_of, setting_of}
use Rattle.attr_search.specs.Slots.{Matched, is_needed, slots_of, table_answer}
use Rattle.attr_table.specs.Skipped.{narrowed}

-- empty slots have no answers
abbrev no_slot : {X : Type 0} → X → Option Matched
no_slot x = None

pub empty_at : {X : Type 0} (xs : List X) (a : ℕ) → get_or (map no_slot xs) a None ≡ None
empty_at (x ∷ xs) (suc a) = empty_at xs a
empty_at xs a = grind (arith, nat_tests)

pub nothing_in : {X : Type 0} (xs : List X) → slots_of (map no_slot xs) ≡ no_answers
nothing_in xs = fun_ext (λ a. ap (option_map (table_answer a)) (empty_at xs a))

-- where one value is repeated, it is at each index
pub repeated : {X : Type 0} (x : X) (n a : ℕ) → get_or (replicate n x) a x ≡ x
repeated x (suc n) (suc a) = repeated x n a
repeated x n a = grind (arith, nat_tests)

-- where all are needed, slots are seen as they are
pub all_are_needed : (flags : List Bool) (n : ℕ) → flags ≡ replicate n true → (a : ℕ) → is_needed flags a ≡ true
all_are_needed flags n e a = ap (λ l. is_needed l a) e ∙ repeated true n a

pub all_seen : (flags : List Bool) (n : ℕ) (slots : Slots) → flags ≡ replicate n true → narrowed (is_needed flags) slots ≡ slots
all_seen flags n slots e = narrowed_all (is_needed flags) slots (all_are_needed flags n e)

-- what a filter lets through is in what it leaves
pub in_filter : {X : Type 0} (p : X → Bool) (xs : List X) (x : X) → Contains xs x → p x ≡ true → Contains (filter p xs) x
in_filter p (y ∷ ys) x (suc k, lt, e) t =
    let c = in_filter p ys x (k, omega (arith, lt), e) t in
    cond_both (p y) (y ∷ filter p ys) (filter p ys) (λ zs. Contains zs x) (λ _. (suc c.0, omega (arith, c.1), c.2)) (λ _. c)
in_filter p xs x h t = grind (arith, nat_tests)

in_range : (a n k number : ℕ) → k < n → number ≡ a + k → Contains (range_with_len a n) number
in_range a n k number lt e = grind (arith, nat_tests, length-range_with_len a n, get_or-range_with_len a n k number lt)

-- a number is wanted if there is no selection, or if its name is selected
pub all_wanted : (held : Content) (number : ℕ) → length held.selection ≡ 0 → number < length held.slots → Contains (wanted_of held) number
all_wanted held number none lt =
    in_filter (is_wanted held.selection) (range_with_len 0 (length held.slots)) number (in_range 0 (length held.slots) number number lt (omega arith))
    (ap (λ n. n == 0 || list_any (has_number number) held.selection) none)

has_its_number : (name : Wanted) (number : ℕ) → name.number ≡ Some number → has_number number name ≡ true
has_its_number name number e = grind (arith, nat_tests)

pub name_wanted : (held : Content) (name : Wanted) (number : ℕ) → Contains held.selection name → name.number ≡ Some number →
    number < length held.slots → Contains (wanted_of held) number
name_wanted held name number selected e lt =
    let own = has_its_number name number e in
    let any = list_any-from_Any (has_number number) held.selection (selected.0, name, selected.1, selected.2, own) in
    in_filter (is_wanted held.selection) (range_with_len 0 (length held.slots)) number (in_range 0 (length held.slots) number number lt (omega arith))
    (grind (arith, nat_tests))

-- the table of a search from nothing is the only stable one
pub cut_of : (s : Setting) (wanted : List ℕ) (before after : Slots) (table : Table) → before ≡ no_answers → IsSearched s wanted before after →
    IsStable s no_answers table → IsCut s no_answers table wanted after
cut_of s wanted before after table nothing searched stable =
    let from = subst (λ start. IsSearched s wanted start after) nothing searched in
    let one = OneTable-of s no_answers in
    let same : from.0 ≡ table = one.2 from.0 from.1 ∙ sym (one.2 table stable) in
    subst (λ t. IsCut s no_answers t wanted after) same from.2

pub answered_by : (s : Setting) (wanted : List ℕ) (before after : Slots) (table : Table) (number : ℕ) → before ≡ no_answers →
    IsSearched s wanted before after → IsStable s no_answers table → Contains wanted number → after number ≡ full_answer s None (table number)
answered_by s wanted before after table number nothing searched stable c =
    seen_wanted s no_answers wanted table after number stable (cut_of s wanted before after table nothing searched stable) c

pub answered_or_not : (s : Setting) (wanted : List ℕ) (before after : Slots) (table : Table) (number : ℕ) → before ≡ no_answers →
    IsSearched s wanted before after → IsStable s no_answers table →
    (after number ≡ None) ⊎ (after number ≡ full_answer s None (table number))
answered_or_not s wanted before after table number nothing searched stable =
    seen_others s no_answers wanted table after number stable (cut_of s wanted before after table nothing searched stable)

-- ---- a search that leaves something that is wanted without an answer

pub not_done : (wanted : List ℕ) (slots : Slots) → is_done wanted slots ≡ false → (w : ℕ) × Contains wanted w × (slots w ≡ None)
not_done [] slots left = absurd cc
not_done (v ∷ wanted) slots left = at (λ h. not_done wanted slots h) (slots v) refl
  where
    at : (is_done wanted slots ≡ false → (w : ℕ) × Contains wanted w × (slots w ≡ None)) → (o : Option Answer) → slots v ≡ o →
        (w : ℕ) × Contains (v ∷ wanted) w × (slots w ≡ None)
    at rest None e = (v, (0, omega arith, refl), e)
    at rest (Some x) e =
        let r = rest (ap (λ o. is_some o && is_done wanted slots) (sym e) ∙ left) in
        (r.0, (suc r.1.0, omega (arith, r.1.1), r.1.2), r.2)

-- an occurrence with an item has a line, and so an answer
has_origin : (s : Setting) (o : Occurrence) (i : Item) → item_at s o ≡ Some i → (origin : Origin) × (origin_at s o ≡ Some origin)
has_origin s (Root list line item) i e = at (line_at s list line) e
  where
    at : (l : Option Line) → option_and_then (λ l. slice_get l.items item) l ≡ Some i →
        (origin : Origin) × (option_map (λ l. l.origin) l ≡ Some origin)
    at None d = absurd cc
    at (Some l) d = (l.origin, refl)
has_origin s (Inside parent index) i e = grind (arith, nat_tests, has_origin s parent)

pub has_answer : (s : Setting) (o : Occurrence) (i : Item) → item_at s o ≡ Some i → answer_at s o ≡ None → ⊥
has_answer s o i e none = grind (arith, nat_tests, has_origin)

-- such a wanted attribute had no answer, and has no entry
no_entry : (s : Setting) (wanted : List ℕ) (start slots : Slots) (table : Table) (w : ℕ) → IsStable s start table →
    IsCut s start table wanted slots → Contains wanted w → slots w ≡ None → (start w ≡ None) × (table w ≡ None)
no_entry s wanted start slots table w stable cut c none = grind (arith, nat_tests, seen_wanted, has_answer)

-- so each entry is kept
pub whole_from : (s : Setting) (wanted : List ℕ) (start slots : Slots) (table : Table) → IsSearched s wanted start slots → IsStable s start table →
    is_done wanted slots ≡ false → (number : ℕ) → slots number ≡ full_answer s (start number) (table number)
whole_from s wanted start slots table searched stable left number =
    let one = OneTable-of s start in
    let same : searched.0 ≡ table = one.2 searched.0 searched.1 ∙ sym (one.2 table stable) in
    let cut = subst (λ t. IsCut s start t wanted slots) same searched.2 in
    let w = not_done wanted slots left in
    let none = no_entry s wanted start slots table w.0 stable cut w.1 w.2 in
    at (w.0, w.1, none.0, none.1) (start number) (cut number)
  where
    by_entry : (w : ℕ) × Contains wanted w × (start w ≡ None) × (table w ≡ None) → (o : Option Occurrence) →
        IsCutAt s start table wanted o (slots number) → slots number ≡ full_answer s None o
    by_entry free o e = grind (arith, nat_tests)

    at : (w : ℕ) × Contains wanted w × (start w ≡ None) × (table w ≡ None) → (o : Option Answer) →
        MatchOption o (IsCutAt s start table wanted (table number) (slots number)) (λ x. slots number ≡ Some x) →
        slots number ≡ full_answer s o (table number)
    at free o e = grind (arith, nat_tests, by_entry)

pub whole_table : (s : Setting) (wanted : List ℕ) (before after : Slots) (table : Table) → before ≡ no_answers →
    IsSearched s wanted before after → IsStable s no_answers table → is_done wanted after ≡ false → (number : ℕ) →
    after number ≡ full_answer s None (table number)
whole_table s wanted before after table nothing searched stable left number = grind (arith, nat_tests, whole_from s wanted no_answers after table)

-- ---- lists of which no line matches

-- a line that gives nothing has no tasks
silent_tasks : (case : Case) (is_dir : Option Bool) (source rest : Option (List ℕ)) (lines : List Entry) →
    All (λ line. gives case is_dir rest line ≡ false) lines → list_tasks (map (line_of case is_dir source rest) lines) ≡ []
silent_tasks case is_dir source rest [] silent = refl
silent_tasks case is_dir source rest (line ∷ lines) silent =
    let P : Entry → Type 0 = λ l. gives case is_dir rest l ≡ false in
    grind (arith, nat_tests, All-head P line lines silent, silent_tasks case is_dir source rest lines (All-tail P line lines silent))

-- the tasks of some lists are those of the lists without a silent one
same_tasks : (earlier later : List Listed) (silent : Listed) (path : List ℕ) (case : Case) (is_dir : Option Bool) →
    All (λ line. gives case is_dir (rest_for case path silent) line ≡ false) silent.lines →
    tasks_of (map (lines_of case is_dir path) (earlier ++ silent ∷ later)) ≡ tasks_of (map (lines_of case is_dir path) (earlier ++ later))
same_tasks [] later silent path case is_dir none = grind (arith, nat_tests, silent_tasks, append-nil)
same_tasks (l ∷ earlier) later silent path case is_dir none = grind (arith, nat_tests, same_tasks earlier later silent path case is_dir none)

searched_by_tasks : (s t : Setting) (wanted : List ℕ) (before after : Slots) → s.bodies ≡ t.bodies → tasks_of s.lists ≡ tasks_of t.lists →
    IsSearched s wanted before after → IsSearched t wanted before after
searched_by_tasks s t wanted before after bodies tasks searched = grind (arith, nat_tests, walked_searched, searched_walked)

pub silent_changes_nothing : (earlier later : List Listed) (silent : Listed) (bodies : List (List TrackedAssignment)) (path : List ℕ) (case : Case)
    (is_dir : Option Bool) (wanted : List ℕ) (before after : Slots) →
    All (λ line. gives case is_dir (rest_for case path silent) line ≡ false) silent.lines →
    IsSearched (setting_of (earlier ++ silent ∷ later) bodies path case is_dir) wanted before after
    ↔ IsSearched (setting_of (earlier ++ later) bodies path case is_dir) wanted before after
silent_changes_nothing earlier later silent bodies path case is_dir wanted before after none =
    let e = same_tasks earlier later silent path case is_dir none in
    let all = setting_of (earlier ++ silent ∷ later) bodies path case is_dir in
    let others = setting_of (earlier ++ later) bodies path case is_dir in
    (searched_by_tasks all others wanted before after refl e, searched_by_tasks others all wanted before after refl (sym e))

-- The answers of an engine after a search: those of the only stable table, and where they are.
use Rattle.std.proofs.lemmas.Grind.{common_steps}
use Rattle.std.proofs.lemmas.Bool.{cases_lt, cond-false, cond-true}
use Rattle.std.proofs.lemmas.Bool.Decides.{nat_tests}
use Rattle.std.proofs.Common.{◌≡◌, ℕ, ◌++◌, ◌-◌, append_assoc, ◌+◌, ◌<◌, ◌≤◌, Bool, true, false, List, [], ◌∷◌, length, drop, map, Option}
use Rattle.std.proofs.Common.{All, Some, None, Result, OnOk, OnErr, filter, nat_eq, suc, take, is_some}
use Rattle.std.proofs.Common.{⊎_elim, MatchOption, option_map, slice_get, get_or, refl, sym, ap, ◌∙◌, arith, subst, eqb-true}
use Rattle.std.specs.Prelude.{◌==◌, ⊤, bytes_eq, if◌then◌else◌, option_and_then, unwrap_or}
use Rattle.std.specs.List.{IsDistinct, list_any}
use Rattle.std.proofs.lemmas.List.{append-nil, drop_more, get_or_past, length-map, map-append, take_more}
use Rattle.std.specs.List.Sorted.{IsStrictlyIncreasing, IsStrictlySortedBy}
use Rattle.std.specs.Ordering.{nat_cmp}
use Rattle.std.proofs.lemmas.List.Elements.{All-cons, All-tail, All-weaker, filter-append}
use Rattle.std.proofs.lemmas.List.Folds.{list_any_none}
use Rattle.std.proofs.lemmas.Map.Keys.{below_from_sorted, sorted_from_strictly_increasing}
use Rattle.attr_search.specs.shared.SlotContents.{AreListed}
use Rattle.std.proofs.lemmas.Option.{get_or_from_slice_get, slice_get_cases, slice_get_within, slice_get-map}
use Rattle.attr_lists.specs.Collections.{Collection}
use Rattle.gix_attributes.specs.Contents.{Content, Wanted, found_in, looked_up, names_selected, selected_in, bodies_of, wanted_of}
use Rattle.attr_table.specs.Cut.{IsSearched}
use Rattle.gix_attributes.specs.Lookups.{FindsAnswers, Lookup, OfTheOnlyTable, answers_by_number, selected_answers}
use Rattle.attr_lists.specs.Numbers.{number_of}
use Rattle.gix_attributes.specs.Searching.{KeepsAllButAnswers, KeepsNames, answers_in, setting_for}
use Rattle.attr_search.specs.Settings.{BodiesAreNamed, HeldAreNamed, setting_of}
use Rattle.attr_search.specs.Slots.{Matched}
use Rattle.attr_table.specs.Table.{Slots}
use Rattle.attr_lists.proofs.ForCallers.{number_at}
use Rattle.gix_attributes.proofs.KeepingLemmas.{bodies_have_names}
use Rattle.gix_attributes.proofs.NarrowedLemmas.{narrowed_answers, narrowed_found, narrowed_named}
use Rattle.gix_attributes.specs.inner.Needed.{IsNarrowed}
use Rattle.gix_attributes.proofs.OutcomeLemmas.{found_over, names_looked_up, nothing_found, reset_at_first, reset_searched}
use Rattle.gix_attributes.specs.EngineStates.{EngineState, path_setting, returned_answers, specified_among, texts_answered}
use Rattle.gix_attributes.specs.EngineView.{returned_by}
use Rattle.gix_attributes.specs.Registration.{RegistersAlone}
use Rattle.gix_attributes.specs.inner.SoundEngines.{AreNumbered, AreNumbersOf, IsCurrentFor, IsOfNames, is_slot_specified}
use Rattle.gix_attributes.proofs.RegistrationLemmas.{bodies_registered}

-- ---- selected names

-- the selected names stay, whether they are looked up again or that is refused
pub names_stay : {T E : Type 0} (r : Result T E) (names texts : List (List ℕ)) (before after : Content) →
    OnOk r (after.selection ≡ looked_up names texts) → OnErr r (after ≡ before) → names_selected before.selection ≡ texts →
    names_selected after.selection ≡ texts
names_stay r names texts before after again same is = grind (arith, nat_tests, names_looked_up)

-- an outcome that is initialised is current
pub current_at_first : (known : Collection) (selected : List (List ℕ)) (held : Content) → IsNarrowed known selected held
    → IsCurrentFor known held
current_at_first known selected held fresh = grind (arith, nat_tests, names_looked_up, reset_at_first)

-- and stays so by searches and resets, for the names and the selection stay
pub current_searched : (known : Collection) (before after : Content) → KeepsAllButAnswers before after → IsCurrentFor known before
    → IsCurrentFor known after
current_searched known before after kept current = grind (arith, nat_tests, reset_searched)

-- ---- answers

module _ (q : Lookup) (list_ids : List ℕ) (before after : Content)
    (same : length list_ids ≡ length q.lists) (knows : RegistersAlone q.known list_ids q.lists) (fresh : IsNarrowed q.known q.selected before)
    (searched : IsSearched (setting_for q.lists before q.path q.case q.is_dir) (wanted_of before) (answers_in before) (answers_in after))
    (keeps : KeepsNames q.lists before after) (kept : KeepsAllButAnswers before after) where
  abbrev state : EngineState
  state = record { names = q.known.names; lists = q.lists; selection = q.selected }

  bodies_named : BodiesAreNamed q.known.names (bodies_of q.known)
  bodies_named = bodies_have_names q.known knows.exactly.sound

  -- an outcome selects as many names as are selected
  count : length after.selection ≡ length q.selected
  count = grind (arith, nat_tests, length-map)

  returned : (answers : Slots) (b : Bool) → (length q.selected == 0) ≡ b
      → (length q.selected ≡ 0 → found_in after.slots ≡ answers_by_number q.known.names answers)
      → selected_in after.slots after.selection ≡ selected_answers q.known.names answers q.selected
      → returned_by after ≡ returned_answers state answers
  returned answers b e all selected = grind (arith, nat_tests, cond-true, count, eqb-true, cond-false)

  -- the answers that are returned are those of the only stable table of the lists
  pub answered : OfTheOnlyTable (path_setting state q.path q.case q.is_dir) (λ answers. returned_by after ≡ returned_answers state answers)
  answered =
      let found = narrowed_answers q before after fresh knows.named bodies_named searched keeps kept in
      subst
      (λ bodies. OfTheOnlyTable (setting_of q.lists bodies q.path q.case q.is_dir)
      (λ answers. returned_by after ≡ returned_answers state answers))
      (bodies_registered q.known list_ids q.lists q.selected same knows)
      (found.0, returned _ (length q.selected == 0) refl found.1.0 found.1.1)

  -- and so is what is found by number
  pub found : OfTheOnlyTable (path_setting state q.path q.case q.is_dir) (λ answers. FindsAnswers q.known.names q.selected answers after.slots)
  found =
      subst
      (λ bodies. OfTheOnlyTable (setting_of q.lists bodies q.path q.case q.is_dir)
      (λ answers. FindsAnswers q.known.names q.selected answers after.slots))
      (bodies_registered q.known list_ids q.lists q.selected same knows)
      (narrowed_found q before after fresh knows.named bodies_named searched keeps kept)

  -- with the names of the collection
  pub of_names : IsOfNames q.known.names after
  of_names = grind (arith, nat_tests, names_looked_up, narrowed_named, bodies_named)

-- ---- where the answers are, if nothing is selected

-- what is left to be numbered from a number on
abbrev pub left_from : List (Option Matched) → ℕ → List (Option Matched)
left_from slots i = map Some (specified_among (found_in (drop i slots)))

-- as many numbers as answers
pub same_length : (slots : List (Option Matched)) (matches : List Matched) (numbers : List ℕ) → AreNumbersOf slots matches numbers
    → length numbers ≡ length matches
same_length slots matches numbers numbered = grind (arith, nat_tests, length-map)

-- the answer at an index is in the slot with the number there
pub at_index : (slots : List (Option Matched)) (matches : List Matched) (numbers : List ℕ) (i n : ℕ) → AreNumbersOf slots matches numbers
    → slice_get numbers i ≡ Some n → get_or slots n None ≡ slice_get matches i
at_index slots matches numbers i n numbered here =
    let same = ap (λ l. slice_get l i) numbered in
    let by_number = slice_get-map (λ number. get_or slots number None) numbers i in
    grind (arith, nat_tests, same, by_number, slice_get-map (λ (m : Matched). Some m) matches i)

-- ---- the numbers of the attributes that answers are for

-- what is read at an index of the answers
abbrev texts_of : List (List ℕ) → List (List ℕ) → List Matched → List (List ℕ)
texts_of names selected answers = texts_answered (record { names = names; lists = []; selection = selected }) answers

abbrev Numbered : List (List ℕ) → List (List ℕ) → Option (List Matched) → ℕ → Option ℕ → Type 0
Numbered names selected answers i o =
    o ≡ option_and_then (λ ms. option_and_then (number_of names) (slice_get (texts_of names selected ms) i)) answers

-- the number of a slot whose match has the name of the number
number_of_slot : (names : List (List ℕ)) (slots : List (Option Matched)) (n : ℕ) (m : Matched) → IsDistinct bytes_eq names
    → HeldAreNamed names slots → get_or slots n None ≡ Some m → number_of names m.assignment.name ≡ Some n
number_of_slot names slots n m distinct named here =
    let own : slice_get names n ≡ Some m.assignment.name =
    subst (λ o. MatchOption o ⊤ (λ (x : Matched). slice_get names n ≡ Some x.assignment.name)) here (named n) in
    let below : n < length names = slice_get_within names n m.assignment.name own in
    ap (number_of names) (sym (get_or_from_slice_get names n m.assignment.name [] own)) ∙ number_at names n distinct below

-- without a selection, the number at an index is that of the answer's name
pub answer_number : (names : List (List ℕ)) (has : Bool) (held : Content) (numbers : List ℕ) (i n : ℕ) → IsDistinct bytes_eq names
    → has ≡ true → length held.selection ≡ 0 → (has ≡ true → AreNumbered held numbers) → (has ≡ true → IsOfNames names held)
    → slice_get numbers i ≡ Some n
    → Numbered names (names_selected held.selection) (if has then Some (returned_by held) else None) i (Some n)
answer_number names has held numbers i n distinct given none numbered named here =
    let no_selection : (length held.selection == 0) ≡ true = ap (λ k. k == 0) none in
    let no_texts : (length (names_selected held.selection) == 0) ≡ true =
    ap (λ k. k == 0) (length-map held.selection (λ (w : Wanted). w.name)) ∙ no_selection in
    let are_numbered = numbered given no_selection in
    let matches = specified_among (found_in held.slots) in
    let within = slice_get_within numbers i n here in
    let count = same_length held.slots matches numbers are_numbered in
    ⊎_elim
    (λ (r : (m : Matched) × (i < length matches) × (slice_get matches i ≡ Some m) × (get_or matches i m ≡ m)).
    sym (ap (option_and_then (number_of names)) (slice_get-map (λ (m : Matched). m.assignment.name) matches i
    ∙ ap (option_map (λ (m : Matched). m.assignment.name)) r.2)
    ∙ number_of_slot names held.slots n r.0 distinct (named given).answers (at_index held.slots matches numbers i n are_numbered here ∙ r.2)))
    (λ (past : (length matches ≤ i) × (slice_get matches i ≡ None)). absurd (omega (arith, past.0, within, count)))
    (slice_get_cases matches i).1
    ∙ (ap (λ l. option_and_then (number_of names) (slice_get l i))
    (sym (cond-true (length (names_selected held.selection) == 0) (map (λ (m : Matched). m.assignment.name) matches) _ no_texts))
    ∙ sym (ap (option_and_then (λ ms. option_and_then (number_of names) (slice_get (texts_of names (names_selected held.selection) ms) i)))
    (cond-true has (Some (returned_by held)) None given
    ∙ ap Some (cond-true (length held.selection == 0) matches _ no_selection))))

-- the answers from a number on begin with the one that has the number
pub next_answer : {X : Type 0} (answers : Option (List X)) (i : ℕ) (x : X) → Some x ≡ option_and_then (λ xs. slice_get xs i) answers
    → drop i (unwrap_or answers []) ≡ x ∷ drop (i + 1) (unwrap_or answers [])
next_answer None i x e = absurd (cc)
next_answer (Some xs) i x e =
    drop_more xs i x (slice_get_within xs i x (sym e)) ∙ ap (λ y. y ∷ drop (i + 1) xs) (get_or_from_slice_get xs i x x (sym e))

-- ---- the numbers of the answers

-- what is left from a number on is its answer, if that is specified, and what is left from the next one on
left_more : (slots : List (Option Matched)) (number : ℕ) (o : Option Matched) → number < length slots → get_or slots number None ≡ o →
    left_from slots number ≡ (if is_slot_specified o then o ∷ left_from slots (number + 1) else left_from slots (number + 1))
left_more slots number o lt e = grind (arith, common_steps, nat_tests, drop_more, cond-true, cond-false)

-- one more number is looked at
pub numbered_more : (slots : List (Option Matched)) (before after : List ℕ) (number : ℕ) → number < length slots →
    after ≡ (if is_slot_specified (get_or slots number None) then before ++ number ∷ [] else before) →
    map (λ n. get_or slots n None) before ++ left_from slots number ≡ left_from slots 0 →
    map (λ n. get_or slots n None) after ++ left_from slots (number + 1) ≡ left_from slots 0
numbered_more slots before after number lt e so_far = grind (arith, common_steps, map-append, append_assoc, left_more)

-- one more number that is listed is looked at
pub listed_next : (test : ℕ → Bool) (listed before after : List ℕ) (index : ℕ) → index < length listed → before ≡ filter test (take index listed) →
    after ≡ (if test (get_or listed index 0) then before ++ get_or listed index 0 ∷ [] else before) → after ≡ filter test (take (index + 1) listed)
listed_next test listed before after index lt so_far one =
    let more = ap (filter test) (take_more listed index 0 lt) ∙ filter-append test (take index listed) (get_or listed index 0 ∷ []) in
    grind (arith, nat_tests, more, so_far, one, append-nil, cond-true, cond-false)

-- a number that is below each of others is none of them
unlisted : (a : ℕ) (numbers : List ℕ) → All (λ n. a < n) numbers → list_any (nat_eq a) numbers ≡ false
unlisted a numbers above =
    list_any_none (nat_eq a) numbers
    (All-weaker (λ n. a < n) (λ n. nat_eq a n ≡ false) (λ n less. grind (arith, nat_tests)) numbers above)

-- the numbers of the filled slots from one on, in their order, lead to what is left from there on
left_listed : (slots : List (Option Matched)) (from : ℕ) (numbers : List ℕ) → IsStrictlySortedBy nat_cmp numbers → All (λ n. from ≤ n) numbers →
    All (λ n. n < length slots) numbers →
    ((a : ℕ) → from ≤ a → list_any (nat_eq a) numbers ≡ false → get_or slots a None ≡ None) →
    map (λ n. get_or slots n None) (filter (λ n. is_slot_specified (get_or slots n None)) numbers) ≡ left_from slots from
unfolding IsStrictlySortedBy
left_listed slots from [] rising above within free =
    sym (ap (λ found. map Some (specified_among found)) (nothing_found slots from (λ a le. free a le refl)))
left_listed slots from (n ∷ numbers) rising above within free =
    let later : All (λ m. n < m) numbers = λ k d lt. below_from_sorted (n ∷ numbers) 0 (suc k) d rising (omega arith) (omega (arith, lt)) in
    let start : from ≤ n = above 0 n (omega arith) in
    let inside : n < length slots = within 0 n (omega arith) in
    let over : left_from slots from ≡ left_from slots n =
    ap (λ found. map Some (specified_among found)) (found_over slots from n (n - from) (omega (arith, start)) (omega (arith, inside))
    (λ a le lt. free a le (unlisted a (n ∷ numbers)
    (All-cons (λ m. a < m) n numbers lt (λ k d l. omega (arith, later k d l, lt)))))) in
    let rest = left_listed slots (n + 1) numbers rising.1 (λ k d lt. omega (arith, later k d lt)) (All-tail (λ m. m < length slots) n numbers within)
    (λ a le none. free a (omega (arith, le, start)) (grind (arith, nat_tests, le, none))) in
    let more = left_more slots n (get_or slots n None) inside refl in
    grind (arith, nat_tests, over, rest, more, cond-true, cond-false)

-- the numbers that are listed of specified answers are those of all of them
pub listed_numbered : (slots : List (Option Matched)) (listed : List ℕ) → AreListed slots listed → IsStrictlyIncreasing listed →
    AreNumbersOf slots (specified_among (found_in slots)) (filter (λ n. is_slot_specified (get_or slots n None)) listed)
listed_numbered slots listed are rising =
    left_listed slots 0 listed (sorted_from_strictly_increasing listed rising) (λ k d lt. omega arith)
    (λ k d lt. let filled = are.filled k d lt in grind (arith, get_or_past, cases_lt, is_some))
    (λ a le none. are.others a none)

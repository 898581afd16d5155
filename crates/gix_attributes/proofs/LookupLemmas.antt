-- What an outcome returns after a search, by the only stable table, with names.
use Rattle.std.proofs.lemmas.Bool.Decides.{nat_tests}
use Rattle.std.proofs.Common.{◌≡◌, inl, inr, ℕ, zero, suc, ◌+◌, ◌<◌, ◌==◌, Bool, true, false, List, [], ◌∷◌, ◌++◌, length, get_or, map, replicate}
use Rattle.std.proofs.Common.{filter, slice_get, All, Option, Some, None, MatchOption, option_map, unwrap_or, refl, sym, ap, ◌∙◌, arith, ◌⊎◌}
use Rattle.std.proofs.Common.{subst, ⊎_elim, eqb-true}
use Rattle.std.specs.Prelude.{option_and_then, ⊤, is_some}
use Rattle.std.specs.List.{Contains, cons_option, filter_map, list_any, range_with_len}
use Rattle.std.proofs.lemmas.Bool.{or_cases}
use Rattle.std.proofs.lemmas.List.{length-map, map-append, get_or-map}
use Rattle.std.proofs.lemmas.List.Elements.{All-append, All-contains, All-filter, All-head, All-tail, Contains-get_or}
use Rattle.std.proofs.lemmas.List.Elements.{Contains-append_left, Contains-append_right, filter_passes}
use Rattle.std.proofs.lemmas.List.FromFn.{get_or-map-range_with_len, get_or-range_with_len, length-range_with_len}
use Rattle.std.proofs.lemmas.List.Folds.{Any-from_list_any, list_all_at}
use Rattle.std.proofs.lemmas.List.Quantifiers.{position-Some}
use Rattle.std.proofs.lemmas.Slice.Eq.{bytes_eq-Decides}
use Rattle.attr_text.specs.declared.state.State.{State}
use Rattle.attr_wildmatch.specs.declared.case.Case.{Case}
use Rattle.attr_lists.specs.Numbers.{number_of}
use Rattle.attr_lists.specs.declared.types.TrackedAssignment.{TrackedAssignment}
use Rattle.attr_table.specs.Setting.{Setting}
use Rattle.attr_table.specs.Table.{IsStable, Occurrence, OneTable, Slots, Table}
use Rattle.attr_table.specs.Skipped.{IsClosed, narrowed}
use Rattle.std.proofs.lemmas.Option.{get_or_from_slice_get}
use Rattle.gix_attributes.proofs.CauseLemmas.{cause_needed, cause_seen}
use Rattle.attr_table.specs.Cut.{IsSearched, answer_at, full_answer, is_done, no_answers}
use Rattle.attr_table.proofs.ForCallers.{OneTable-of}
use Rattle.attr_search.specs.ListView.{Listed}
use Rattle.attr_search.specs.Settings.{BodiesAreNamed, HeldAreNamed, LinesAreNamed, lines_of, setting_of}
use Rattle.attr_search.specs.Slots.{Matched, is_needed, slots_of, table_answer, table_items, table_state}
use Rattle.gix_attributes.specs.Contents.{Content, Wanted, found_in, has_number, initial_content}
use Rattle.gix_attributes.specs.Contents.{is_wanted, looked_up, selected_in, unspecified, wanted_of}
use Rattle.gix_attributes.specs.inner.Needed.{flags_of}
use Rattle.gix_attributes.specs.Lookups.{FindsAnswers, IsFound, IsLookedUp, IsSearchedFurther, Lookup, OfTheOnlyTable, ReturnsAnswers, SelectsNoMore}
use Rattle.gix_attributes.specs.Lookups.{answers_by_number, attribute_state, named_answer, answer_for, selected_answers}
use Rattle.gix_attributes.specs.Lookups.{setting_in, table_answers, with_lists_searched}
use Rattle.gix_attributes.specs.Searching.{JoinsSearches, KeepsAllButAnswers, KeepsNames, answers_in, is_complete, setting_for}
use Rattle.gix_attributes.proofs.SearchLaws.{all_seen, all_wanted, answered_by, answered_or_not, cut_of, empty_at}
use Rattle.gix_attributes.proofs.SearchLaws.{name_wanted, not_done, nothing_in, whole_from, whole_table}

-- ---- lists

from_range : (p : ℕ → Bool) (n number : ℕ) → Contains (filter p (range_with_len 0 n)) number → (p number ≡ true) × (number < n)
from_range p n number c =
    let numbers = range_with_len 0 n in
    let below : All (λ m. m < n) numbers = λ k d lt. omega (arith, lt, length-range_with_len 0 n, get_or-range_with_len 0 n k d) in (
      All-contains (λ m. p m ≡ true) (filter p numbers) number (filter_passes p numbers) c,
      All-contains (λ m. m < n) (filter p numbers) number (All-filter p (λ m. m < n) numbers below) c,
    )

in_parts : {X : Type 0} (P : X → Type 0) (xs ys : List X) → All P (xs ++ ys) → All P xs × All P ys
in_parts P xs ys h = (
  λ k d lt. All-contains P (xs ++ ys) (get_or xs k d) h (Contains-append_left xs ys _ (Contains-get_or xs k d lt)),
  λ k d lt. All-contains P (xs ++ ys) (get_or ys k d) h (Contains-append_right xs ys _ (Contains-get_or ys k d lt)),
)

number_had : (number : ℕ) (o : Option ℕ) → unwrap_or (option_map (λ n. n == number) o) false ≡ true → o ≡ Some number
number_had number o e = grind (arith, nat_tests, eqb-true)

-- of a part of what is wanted something is left, so something of the whole is
still_left : (some all : List ℕ) (slots : Slots) → ((number : ℕ) → Contains some number → Contains all number) →
    is_done some slots ≡ false → is_done all slots ≡ false
still_left some all slots within left =
    let r = not_done some slots left in
    let c = within r.0 r.1 in
    list_all_at (λ w. is_some (slots w)) all c.0 r.0 c.1 (ap (λ w. is_some (slots w)) c.2 ∙ ap is_some r.2)

-- ---- answers with names

state_again : (state : State) → attribute_state (table_state state) ≡ state
state_again state = grind (arith, nat_tests)

-- a slot whose answer has its number's name is the answer that the table sees, with this name
named_again : (names : List (List ℕ)) (number : ℕ) (slot : Option Matched) →
    MatchOption slot ⊤ (λ m. slice_get names number ≡ Some m.assignment.name) →
    slot ≡ option_map (named_answer (get_or names number [])) (option_map (table_answer number) slot)
named_again names number slot named = grind (arith, nat_tests, get_or_from_slice_get, state_again)

-- the answers that are found, by number
found_by_number : (g : ℕ → Option Matched) (slots : List (Option Matched)) (k : ℕ) →
    ((i number : ℕ) → i < length slots → number ≡ k + i → get_or slots i None ≡ g number) →
    found_in slots ≡ filter_map g (range_with_len k (length slots))
found_by_number g [] k same = refl
found_by_number g (slot ∷ slots) k same =
    ap (λ o. cons_option o (found_in slots)) (same zero k (omega arith) (omega arith))
    ∙ ap (cons_option (g k)) (found_by_number g slots (k + 1) (λ i number lt e. same (suc i) number (omega (arith, lt)) (omega (arith, e))))

-- the answer of a slot is found
in_cons : {X : Type 0} (o : Option X) (xs : List X) (x : X) → Contains xs x → Contains (cons_option o xs) x
in_cons None xs x c = c
in_cons (Some y) xs x c = (suc c.0, omega (arith, c.1), c.2)

in_found : (slots : List (Option Matched)) (number : ℕ) (m : Matched) → get_or slots number None ≡ Some m → Contains (found_in slots) m
in_found (slot ∷ slots) (suc number) m e = in_cons slot (found_in slots) m (in_found slots number m e)
in_found slots number m e = grind (arith, nat_tests)

-- the name at the number of a name
named_at : (names : List (List ℕ)) (name : List ℕ) (number : ℕ) → number_of names name ≡ Some number → (number < length names) ×
    (get_or names number [] ≡ name)
named_at names name number e = grind (arith, nat_tests, position-Some, bytes_eq-Decides)

abbrev look : List (List ℕ) → List ℕ → Wanted
look names name = record { name = name; number = number_of names name }

from_look : (names texts : List (List ℕ)) (w : Wanted) → Contains (looked_up names texts) w →
    (text : List ℕ) × Contains texts text × (look names text ≡ w)
from_look names texts w c =
    let lt : c.0 < length texts = omega (arith, c.1, length-map texts (look names)) in
    (get_or texts c.0 [], Contains-get_or texts c.0 [] lt, sym (get_or-map (look names) texts c.0 [] w lt) ∙ c.2)

wanted_in_selection : (names : List (List ℕ)) (name : List ℕ) (selected : List (List ℕ)) → Contains selected name →
    Contains (looked_up names selected) (look names name)
wanted_in_selection names name selected (k, lt, e) =
    (k, omega (arith, lt, length-map selected (look names)), get_or-map (look names) selected k name (look names name) lt ∙ ap (look names) e)

-- ---- what is returned of slots with the answers of a table

module _ (q : Lookup) (held : Content) (answers : Slots) (count : length held.slots ≡ length q.known.names)
    (selection : held.selection ≡ looked_up q.known.names q.selected)
    (finds : FindsAnswers q.known.names q.selected answers held.slots) where
  abbrev IsThere : List ℕ → Type 0
  IsThere text = MatchOption (number_of q.known.names text) ⊤ (IsFound q.known.names answers held.slots)

  pub found_of : (part : Slots) → ((number : ℕ) → number < length q.known.names → IsFound q.known.names part held.slots number) →
      found_in held.slots ≡ answers_by_number q.known.names part
  found_of part is = grind (arith, nat_tests, part, found_by_number, is)

  one_selected : (name : List ℕ) (o : Option ℕ) → number_of q.known.names name ≡ o →
      MatchOption o ⊤ (IsFound q.known.names answers held.slots) →
      option_and_then (λ number. get_or held.slots number None) o ≡ option_map (named_answer name) (option_and_then answers o)
  one_selected name o e is = grind (arith, nat_tests, named_at)

  pub all_selected : (texts : List (List ℕ)) → All IsThere texts →
      selected_in held.slots (looked_up q.known.names texts) ≡ selected_answers q.known.names answers texts
  all_selected [] h = refl
  all_selected (text ∷ texts) h =
      ap (λ o. unwrap_or o (unspecified text) ∷ selected_in held.slots (looked_up q.known.names texts))
      (one_selected text (number_of q.known.names text) refl (All-head IsThere text texts h))
      ∙ ap (λ ms. answer_for q.known.names answers text ∷ ms) (all_selected texts (All-tail IsThere text texts h))

  one_among : (name : List ℕ) (o : Option ℕ) → number_of q.known.names name ≡ o →
      MatchOption o ⊤ (IsFound q.known.names answers held.slots) →
      MatchOption (option_map (named_answer name) (option_and_then answers o)) ⊤ (Contains (found_in held.slots))
  one_among name o e is = grind (arith, nat_tests, one_selected, in_found)

  -- the answers of the slots that are filled
  abbrev part : Slots
  part number = option_and_then (λ (m : Matched). answers number) (get_or held.slots number None)

  part_at : (number : ℕ) (slot : Option Matched) → get_or held.slots number None ≡ slot → IsFound q.known.names part held.slots number
  part_at number slot e = grind (arith, nat_tests, finds.part number)

  part_of : (number : ℕ) (slot : Option Matched) → (option_and_then (λ (m : Matched). answers number) slot ≡ None)
      ⊎ (option_and_then (λ (m : Matched). answers number) slot ≡ answers number)
  part_of number None = inl refl
  part_of number (Some m) = inr refl

  returned : (is_complete held ≡ false → (number : ℕ) → number < length q.known.names → IsFound q.known.names answers held.slots number) →
      ReturnsAnswers q held answers
  returned whole =
      record {
        selected = ap (selected_in held.slots) selection ∙ all_selected q.selected finds.selected;
        all = λ none. found_of answers (finds.all none);
        unfinished = λ left. found_of answers (whole left);
        found = (
          part,
          λ number. part_of number (get_or held.slots number None),
          found_of part (λ number lt. part_at number (get_or held.slots number None) refl),
        );
        among = λ k d lt. one_among (get_or q.selected k d) _ refl (finds.selected k d lt);
      }

-- ---- after a lookup

full_is : (s : Setting) (o : Option Occurrence) → full_answer s None o ≡ option_and_then (answer_at s) o
full_is s o = grind (arith, nat_tests)

pub nothing_named : {X : Type 0} (names : List (List ℕ)) (xs : List X) →
    HeldAreNamed names (map (λ (x : X). let none : Option Matched = None in none) xs)
nothing_named names xs a = grind (arith, nat_tests, empty_at xs a)

-- nothing of what is wanted changes
wanted_kept : (before after : Content) → KeepsAllButAnswers before after → wanted_of after ≡ wanted_of before
wanted_kept before after kept = grind (arith, nat_tests)

-- a search that leaves something that is wanted without an answer leaves the whole table
pub unfinished_whole : (lists : List Listed) (path : List ℕ) (case : Case) (is_dir : Option Bool) (before after : Content) (table : Table)
    (number : ℕ) →
    (let setting = setting_for lists before path case is_dir in
    IsSearched setting (wanted_of before) (answers_in before) (answers_in after) → KeepsAllButAnswers before after →
    is_complete after ≡ false → IsStable setting (answers_in before) table →
    answers_in after number ≡ full_answer setting (answers_in before number) (table number))
unfinished_whole lists path case is_dir before after table number searched kept left stable =
    whole_from (setting_for lists before path case is_dir) (wanted_of before) (answers_in before) (answers_in after) table searched stable
    (ap (λ wanted. is_done wanted (answers_in after)) (sym (wanted_kept before after kept)) ∙ left) number

module _ (q : Lookup) where
  abbrev pub start : Content
  start = initial_content q.known q.selected

  pub counted : length start.slots ≡ length q.known.names
  counted = length-map q.known.names (λ (x : List ℕ). let none : Option Matched = None in none)

  nothing_seen : answers_in start ≡ no_answers
  nothing_seen = all_seen start.needed (length q.known.names) (slots_of start.slots) refl ∙ nothing_in q.known.names

  pub the_table : OneTable (setting_in q) no_answers
  the_table = OneTable-of (setting_in q) no_answers

  abbrev pub the_answers : Slots
  the_answers = table_answers (setting_in q) the_table.0

  -- the number of a selected name is wanted
  asked_for : (name : List ℕ) (number : ℕ) → Contains q.selected name → number_of q.known.names name ≡ Some number →
      Contains (wanted_of start) number
  asked_for name number c e =
      name_wanted start (look q.known.names name) number (wanted_in_selection q.known.names name q.selected c) e
      (omega (arith, counted, (named_at q.known.names name number e).0))

  -- and without a selection each is
  all_asked_for : length q.selected ≡ 0 → (number : ℕ) → number < length q.known.names → Contains (wanted_of start) number
  all_asked_for none number lt =
      all_wanted start number (length-map q.selected (look q.known.names) ∙ none) (omega (arith, counted, lt))

  -- what is wanted has the number of a name
  pub wanted_flag : (number : ℕ) → Contains (wanted_of start) number →
      get_or (flags_of start.selection (length q.known.names)) number false ≡ true
  wanted_flag number c =
      let found = from_range (is_wanted start.selection) (length start.slots) number c in
      grind (arith, nat_tests, get_or-map-range_with_len, counted)

  -- a slot with the answer of the only table has it with its name
  found_if : (slots : List (Option Matched)) (number : ℕ) → HeldAreNamed q.known.names slots →
      slots_of slots number ≡ full_answer (setting_in q) None (the_table.0 number) → IsFound q.known.names the_answers slots number
  found_if slots number named e = grind (arith, nat_tests, named_again, full_is)

-- After a search that fills the slots which are needed: what is wanted is needed, and so is each macro whose body has a needed item.
module _ (q : Lookup) (need : ℕ → Bool) (all : Slots) (after : Content) (closed : IsClosed (setting_in q).bodies need)
    (wanted_needed : (number : ℕ) → Contains (wanted_of (start q)) number → need number ≡ true)
    (searched : IsSearched (setting_in q) (wanted_of (start q)) no_answers all)
    (seen : (number : ℕ) → need number ≡ true → slots_of after.slots number ≡ all number)
    (unseen : (number : ℕ) → need number ≡ false → get_or after.slots number None ≡ None)
    (named : HeldAreNamed q.known.names after.slots) where
  abbrev IsAnswered : ℕ → Type 0
  IsAnswered = IsFound q.known.names (the_answers q) after.slots

  answered : (number : ℕ) → Contains (wanted_of (start q)) number → IsAnswered number
  answered number c =
      found_if q after.slots number named (seen number (wanted_needed number c)
      ∙ answered_by (setting_in q) (wanted_of (start q)) no_answers all (the_table q).0 number refl searched (the_table q).1 c)

  part_found : (number : ℕ) (b : Bool) → need number ≡ b → (get_or after.slots number None ≡ None) ⊎ IsAnswered number
  part_found number false skip = inl (unseen number skip)
  part_found number true own =
      ⊎_elim
      (λ (none : all number ≡ None). inl (grind (arith, nat_tests, named_again, named, seen)))
      (λ e. inr (found_if q after.slots number named (seen number own ∙ e)))
      (answered_or_not (setting_in q) (wanted_of (start q)) no_answers all (the_table q).0 number refl searched (the_table q).1)

  cause_found : (number : ℕ) (m : Matched) → get_or after.slots number None ≡ Some m → need number ≡ true → (o : Option ℕ) → m.cause ≡ o →
      MatchOption o ⊤ IsAnswered
  cause_found number m here own None e = tt
  cause_found number m here own (Some cause) e =
      let table = the_table q in
      let cut = cut_of (setting_in q) (wanted_of (start q)) no_answers all table.0 refl searched table.1 in
      let x = table_answer number m in
      let there : all number ≡ Some x = sym (seen number own) ∙ ap (option_map (table_answer number)) here in
      found_if q after.slots cause named
      (seen cause (cause_needed (setting_in q) (wanted_of (start q)) all table.0 table.1 cut need number cause x closed there e own)
      ∙ cause_seen (setting_in q) (wanted_of (start q)) all table.0 table.1 cut number cause x there e)

  causes_found : (number : ℕ) (b : Bool) → need number ≡ b → (slot : Option Matched) → get_or after.slots number None ≡ slot →
      MatchOption slot ⊤ (λ m. MatchOption m.cause ⊤ IsAnswered)
  causes_found number b is slot here = grind (arith, nat_tests, unseen, cause_found)

  selected_found : (text : List ℕ) → Contains q.selected text → (o : Option ℕ) → number_of q.known.names text ≡ o → MatchOption o ⊤ IsAnswered
  selected_found text c o e = grind (arith, nat_tests, answered, asked_for)

  pub finds_answers : ((number : ℕ) → Contains (wanted_of (start q)) number → IsAnswered number)
      × FindsAnswers q.known.names q.selected (the_answers q) after.slots
  finds_answers = (
    answered,
    record {
      part = λ number. part_found number (need number) refl;
      all = λ none number lt. answered number (all_asked_for q none number lt);
      selected = λ k d lt. selected_found (get_or q.selected k d) (Contains-get_or q.selected k d lt) _ refl;
      causes = λ number. causes_found number (need number) refl (get_or after.slots number None) refl;
    },
  )

module _ (q : Lookup) (before after : Content) (looked : IsLookedUp q before after) where
  from : IsLookedUp q (start q) after
  from = subst (λ b. IsLookedUp q b after) looked.initialized looked

  needed : after.needed ≡ replicate (length q.known.names) true
  needed = ap (λ (h : Content). h.needed) from.kept.rest

  shown : answers_in after ≡ slots_of after.slots
  shown = all_seen after.needed (length q.known.names) (slots_of after.slots) needed

  from_nothing : IsSearched (setting_in q) (wanted_of (start q)) no_answers (answers_in after)
  from_nothing = subst (λ nothing. IsSearched (setting_in q) (wanted_of (start q)) nothing (answers_in after)) (nothing_seen q) from.searched

  pub all_named : HeldAreNamed q.known.names after.slots
  all_named = from.named q.known.names looked.lists_named looked.bodies_named (nothing_named q.known.names q.known.names)

  found_there : ((number : ℕ) → Contains (wanted_of (start q)) number → IsFound q.known.names (the_answers q) after.slots number)
      × FindsAnswers q.known.names q.selected (the_answers q) after.slots
  found_there =
      finds_answers q (λ number. true) (answers_in after) after (λ macro k d lt on. refl) (λ number c. refl) from_nothing
      (λ number own. ap (λ (s : Slots). s number) (sym shown)) (λ number skip. absurd cc) all_named

  pub looked_up_found : OfTheOnlyTable (setting_in q) (λ answers. FindsAnswers q.known.names q.selected answers after.slots)
  looked_up_found = (the_table q, found_there.1)

  whole : is_done (wanted_of (start q)) (answers_in after) ≡ false → (number : ℕ) →
      IsFound q.known.names (the_answers q) after.slots number
  whole left number =
      found_if q after.slots number all_named (ap (λ (s : Slots). s number) (sym shown)
      ∙ whole_table (setting_in q) (wanted_of (start q)) no_answers (answers_in after) (the_table q).0 refl from_nothing (the_table q).1 left
      number)

  pub looked_up_answers : OfTheOnlyTable (setting_in q) (ReturnsAnswers q after)
  looked_up_answers = (
    the_table q,
    returned q after (the_answers q) (from.kept.count ∙ counted q) (ap (λ (h : Content). h.selection) from.kept.rest) found_there.1
        (λ left number lt. whole (ap (λ w. is_done w (answers_in after)) (sym (wanted_kept (start q) after from.kept)) ∙ left) number),
  )

  -- in an outcome for other names that was copied from this one
  module _ (names : List (List ℕ)) (fewer : SelectsNoMore q.selected names) where
    abbrev copy : Content
    copy = record (initial_content q.known names) { slots = after.slots }

    asked_there : (name : List ℕ) (number : ℕ) → Contains names name → number_of q.known.names name ≡ Some number →
        Contains (wanted_of (start q)) number
    asked_there name number c e =
        ⊎_elim
        (λ (none : length q.selected ≡ 0). all_asked_for q none number (named_at q.known.names name number e).0)
        (λ (some : (0 < length names) × All (Contains q.selected) names).
        asked_for q name number (All-contains (Contains q.selected) names name some.1 c) e)
        fewer

    all_asked_there : length names ≡ 0 → (number : ℕ) → number < length q.known.names → Contains (wanted_of (start q)) number
    all_asked_there none number lt = grind (arith, nat_tests, all_asked_for q, fewer)

    -- what is wanted there is wanted here
    wanted_there : (number : ℕ) → Contains (wanted_of copy) number → Contains (wanted_of (start q)) number
    wanted_there number c =
        let found = from_range (is_wanted copy.selection) (length after.slots) number c in
        let lt : number < length q.known.names = omega (arith, found.1, from.kept.count, counted q) in
        ⊎_elim
        (λ (none : (length copy.selection == 0) ≡ true).
        all_asked_there (sym (length-map names (look q.known.names)) ∙ eqb-true (length copy.selection) 0 none) number lt)
        (λ (some : list_any (has_number number) copy.selection ≡ true).
        let any = Any-from_list_any (has_number number) copy.selection some in
        let text = from_look q.known.names names any.1 (any.0, any.2, any.3) in
        asked_there text.0 number text.1 (ap (λ (w : Wanted). w.number) text.2 ∙ number_had number any.1.number any.4))
        (or_cases (length copy.selection == 0) (list_any (has_number number) copy.selection) found.0)

    -- and it is seen there as it is here
    same : answers_in copy ≡ answers_in after
    same = ap (λ flags. narrowed (is_needed flags) (slots_of after.slots)) (sym needed)

    selected_there : (name : List ℕ) → Contains names name → (o : Option ℕ) → number_of q.known.names name ≡ o →
        MatchOption o ⊤ (IsFound q.known.names (the_answers q) after.slots)
    selected_there name c None e = tt
    selected_there name c (Some number) e = found_there.0 number (asked_there name number c e)

    pub copied_answers : OfTheOnlyTable (setting_in q) (ReturnsAnswers (record q { selected = names }) copy)
    copied_answers = (
      the_table q,
      returned (record q { selected = names }) copy (the_answers q) (from.kept.count ∙ counted q) refl (record {
        part = found_there.1.part;
        all = λ none number lt. found_there.0 number (all_asked_there none number lt);
        selected = λ k d lt. selected_there (get_or names k d) (Contains-get_or names k d lt) _ refl;
        causes = found_there.1.causes;
      }) (λ left number lt.
          whole (still_left (wanted_of copy) (wanted_of (start q)) (answers_in after) wanted_there (ap (is_done (wanted_of copy)) (sym same) ∙ left))
          number),
    )

-- ---- one search after another

keeps_both : (before middle after : Content) → KeepsAllButAnswers before middle → KeepsAllButAnswers middle after →
    KeepsAllButAnswers before after
keeps_both before middle after first second = grind (arith, nat_tests, needed)

names_both : (lists others : List Listed) (before middle after : Content) → KeepsAllButAnswers before middle →
    KeepsNames lists before middle → KeepsNames others middle after → KeepsNames (others ++ lists) before after
names_both lists others before middle after kept first second names lists_named bodies_named held_named =
    let parts = in_parts (λ l. LinesAreNamed names l.lines) others lists lists_named in
    second names parts.0 (subst (BodiesAreNamed names) (sym (ap (λ (h : Content). h.bodies) kept.rest)) bodies_named)
    (first names parts.1 bodies_named held_named)

-- the lines of the lists that were searched first come last
lines_join : (lists others : List Listed) (bodies : List (List TrackedAssignment)) (q : Lookup) (wanted : List ℕ) (after : Slots) →
    (let lines = map (lines_of q.case q.is_dir q.path) in
    IsSearched (record { lists = lines others ++ lines lists; bodies = map table_items bodies }) wanted no_answers after →
    IsSearched (setting_of (others ++ lists) bodies q.path q.case q.is_dir) wanted no_answers after)
lines_join lists others bodies q wanted after searched =
    subst (λ ls. IsSearched (record { lists = ls; bodies = map table_items bodies }) wanted no_answers after)
    (sym (map-append (lines_of q.case q.is_dir q.path) others lists)) searched

module _ (q : Lookup) (others : List Listed) (before middle after : Content) (looked : IsLookedUp q before middle)
    (further : IsSearchedFurther q others middle after) where
  first : IsLookedUp q (start q) middle
  first = from q before middle looked

  joined : JoinsSearches others q.path q.case q.is_dir (record middle { bodies = (start q).bodies }) after
  joined =
      subst (λ (bodies : List (List TrackedAssignment)). JoinsSearches others q.path q.case q.is_dir (record middle { bodies = bodies }) after)
      (ap (λ (h : Content). h.bodies) first.kept.rest) further.joined

  all_searched : IsSearched (setting_for (others ++ q.lists) (start q) q.path q.case q.is_dir) (wanted_of (start q)) no_answers (answers_in after)
  all_searched =
      lines_join q.lists others (start q).bodies q (wanted_of (start q)) (answers_in after)
      (subst (λ wanted. IsSearched (record {
        lists = map (lines_of q.case q.is_dir q.path) others ++ map (lines_of q.case q.is_dir q.path) q.lists;
        bodies = map table_items (start q).bodies;
      }) wanted no_answers (answers_in after)) (wanted_kept (start q) middle first.kept)
      (joined (map (lines_of q.case q.is_dir q.path) q.lists)
      (subst (λ wanted. IsSearched (setting_in q) wanted no_answers (answers_in middle)) (sym (wanted_kept (start q) middle first.kept))
      (from_nothing q before middle looked))))

  pub joined_lookups : IsLookedUp (with_lists_searched others q) before after
  joined_lookups =
      subst (λ b. IsLookedUp (with_lists_searched others q) b after) (sym looked.initialized) record {
        initialized = refl;
        lists_named = All-append (λ l. LinesAreNamed q.known.names l.lines) others q.lists further.lists_named looked.lists_named;
        bodies_named = looked.bodies_named;
        searched = subst
            (λ nothing. IsSearched (setting_for (others ++ q.lists) (start q) q.path q.case q.is_dir) (wanted_of (start q)) nothing
            (answers_in after)) (sym (nothing_seen q)) all_searched;
        named = names_both q.lists others (start q) middle after first.kept first.named further.named;
        kept = keeps_both (start q) middle after first.kept further.kept;
      }

-- What initialising leaves is consistent, and what is wanted of it.
use Rattle.std.proofs.lemmas.Bool.Decides.{nat_tests}
use Rattle.std.proofs.Common.{◌≡◌, ℕ, zero, suc, ◌+◌, ◌<◌, ◌≤◌, Bool, true, cond, List, [], ◌∷◌, length, get_or, drop, map, filter}
use Rattle.std.proofs.Common.{is_some, All, Option, None, MatchOption, refl, sym, ap, ◌∙◌, ◌-◌, arith}
use Rattle.std.specs.Bool.{⊤}
use Rattle.std.specs.List.{range_with_len}
use Rattle.std.proofs.lemmas.Bool.{cases_lt, false≢true}
use Rattle.std.proofs.lemmas.List.{append-nil, length-map, drop_more, drop_all, get_or_past, take_all}
use Rattle.std.proofs.lemmas.List.FromFn.{length-map-range_with_len}
use Rattle.std.proofs.lemmas.List.Elements.{All-nil, All-cons, All-map}
use Rattle.std.proofs.lemmas.List.Quantifiers.{position-Some}
use Rattle.attr_lists.specs.Collections.{Collection}
use Rattle.attr_lists.specs.Definitions.{IsSoundCollection, macro_body}
use Rattle.attr_lists.specs.declared.types.TrackedAssignment.{TrackedAssignment}
use Rattle.attr_lists.proofs.ForCallers.{body_within}
use Rattle.attr_search.specs.SearchContents.{SearchContents}
use Rattle.attr_search.specs.shared.BodyChanges.{changed_bodies, sized_bodies}
use Rattle.attr_search.specs.declared.bodies.BodyChange.{BodyChange}
use Rattle.attr_search.specs.shared.SlotContents.{wanted_numbers}
use Rattle.gix_attributes.specs.Contents.{Content, IsNextFound, Wanted, bodies_of, reset_content, found_in, initial_content, is_wanted, looked_up}
use Rattle.gix_attributes.specs.inner.Needed.{flags_of, AreNeeded, IsNarrowed}
use Rattle.gix_attributes.specs.Contents.{names_selected}
use Rattle.attr_search.specs.Settings.{HaveSlots}
use Rattle.attr_search.specs.shared.Slotted.{BodiesHaveSlots}
use Rattle.gix_attributes.specs.Searching.{KeepsAllButAnswers}
use Rattle.gix_attributes.specs.Selection.{selection_view}
use Rattle.gix_attributes.proofs.SelectionLemmas.{length_bodies}
use Rattle.attr_search.specs.Slots.{AreFreeFrom, IsNextFilled, Matched}
use Rattle.gix_attributes.specs.declared.search.selected_name.SelectedName.{SelectedName}

-- names stay what they are where they are looked up
pub names_looked_up : (names selected : List (List ℕ)) → names_selected (looked_up names selected) ≡ selected
names_looked_up names [] = refl
names_looked_up names (name ∷ selected) = ap (λ l. name ∷ l) (names_looked_up names selected)

pub looked_up_again : (names selected : List (List ℕ)) (seen : List Wanted) → seen ≡ looked_up names selected → seen ≡ looked_up names
    (names_selected seen)
looked_up_again names selected seen e = e ∙ ap (looked_up names) (sym (ap names_selected e ∙ names_looked_up names selected))

-- an outcome that looks for what the texts depend on
pub narrowed_by : (known : Collection) (texts : List (List ℕ)) (seen : List Wanted) (flags : List Bool) (held : Content) →
    seen ≡ looked_up known.names texts → held ≡ record (initial_content known (names_selected seen)) { needed = flags } →
    AreNeeded (length known.names) (bodies_of known) seen flags → IsNarrowed known texts held
narrowed_by known texts seen flags held e is needed = grind (arith, nat_tests, names_looked_up)

pub selected_below : (selected : List SelectedName) (names texts : List (List ℕ)) → selection_view selected ≡ looked_up names texts → All
    (λ s. MatchOption s.number ⊤ (λ n. n < length names)) selected
selected_below [] names texts e = All-nil (λ s. MatchOption s.number ⊤ (λ n. n < length names))
selected_below (s ∷ selected) names [] e = absurd cc
selected_below (s ∷ selected) names (text ∷ texts) e = grind (arith, nat_tests, All-cons, position-Some, selected_below selected names texts)

-- empty slots for flags, of which there are as many
pub length_flags : (seen : List Wanted) (count : ℕ) (flags : List Bool) → flags ≡ flags_of seen count → length flags ≡ count
length_flags seen count flags e = ap length e ∙ length-map-range_with_len (is_wanted seen) 0 count

pub same_empty : {X Y Z : Type 0} (z : Z) (xs : List X) (ys : List Y) → length xs ≡ length ys → map (λ x. z) xs ≡ map (λ y. z) ys
same_empty z [] [] e = refl
same_empty z [] (y ∷ ys) e = absurd (omega arith)
same_empty z (x ∷ xs) [] e = absurd (omega arith)
same_empty z (x ∷ xs) (y ∷ ys) e = ap (λ l. z ∷ l) (same_empty z xs ys (omega arith))

pub bodies_within : (known : Collection) → IsSoundCollection known → BodiesHaveSlots (length known.names) (bodies_of known)
bodies_within known sound =
    All-map (HaveSlots (length known.names)) (macro_body known) (range_with_len 0 (length known.names))
    (λ k number lt. body_within known (get_or (range_with_len 0 (length known.names)) k number) sound)

shifted_all : (p : ℕ → Bool) (a b n : ℕ) → b ≡ a + 1 → map (λ k. k + a) (map suc (wanted_numbers (map p (range_with_len b n)))) ≡ map (λ k. k + b)
    (wanted_numbers (map p (range_with_len b n)))
shifted_all p a b n e = shifted (wanted_numbers (map p (range_with_len b n)))
  where
    shifted : (ks : List ℕ) → map (λ k. k + a) (map suc ks) ≡ map (λ k. k + b) ks
    shifted [] = refl
    shifted (k ∷ ks) = grind (arith, nat_tests, shifted ks)

wanted_step : (b : Bool) (a : ℕ) (ks rest : List ℕ) → map (λ k. k + a) (map suc ks) ≡ rest →
    map (λ k. k + a) (cond b (0 ∷ map suc ks) (map suc ks)) ≡ cond b (a ∷ rest) rest
wanted_step b a ks rest e = grind (arith, nat_tests)

wanted_from : (p : ℕ → Bool) (a n : ℕ) → map (λ k. k + a) (wanted_numbers (map p (range_with_len a n))) ≡ filter p (range_with_len a n)
wanted_from p a zero = refl
wanted_from p a (suc n) = grind (arith, nat_tests, wanted_step, shifted_all, wanted_from p (a + 1) n)

without_shift : (ks : List ℕ) → map (λ k. k + 0) ks ≡ ks
without_shift [] = refl
without_shift (k ∷ ks) = let here : k + 0 ≡ k = omega arith in ap (λ j. j ∷ map (λ i. i + 0) ks) here ∙ ap (λ l. k ∷ l) (without_shift ks)

-- the numbers whose flags are set are those that are wanted
pub wanted_by_flags : (p : ℕ → Bool) (n : ℕ) → wanted_numbers (map p (range_with_len 0 n)) ≡ filter p (range_with_len 0 n)
wanted_by_flags p n = sym (without_shift (wanted_numbers (map p (range_with_len 0 n)))) ∙ wanted_from p 0 n

-- bodies that are changed to those of a collection have slots
pub changed_to : (known : Collection) (changes : List BodyChange) (bodies seen : List (List TrackedAssignment)) (n : ℕ) → n ≡ length known.names →
    seen ≡ bodies → changed_bodies changes (sized_bodies (length known.names) seen) ≡ bodies_of known → changed_bodies changes
    (sized_bodies n bodies) ≡ bodies_of known
changed_to known changes bodies seen n counted same made = grind (arith, nat_tests)

pub changed_within : (known : Collection) (bodies : List (List TrackedAssignment)) (n : ℕ) → IsSoundCollection known → n ≡ length known.names →
    bodies ≡ bodies_of known → BodiesHaveSlots n bodies
changed_within known bodies n sound counted same = rw (same, counted) (bodies_within known sound)

-- without changes they stay those of a collection
pub kept_as : (known : Collection) (changes : List BodyChange) (bodies : List (List TrackedAssignment)) (n : ℕ) → IsSoundCollection known →
    n ≡ length known.names → changes ≡ [] → bodies ≡ bodies_of known → changed_bodies changes (sized_bodies n bodies) ≡ bodies_of known
kept_as known changes bodies n sound counted none current = grind (arith, nat_tests, length_bodies, append-nil, take_all)

-- what is held of a selection and of what a search fills
abbrev pub held_of : List Wanted → SearchContents → Content
held_of seen s =
    record {
      is_initialized = true;
      slots = s.answers;
      bodies = s.bodies;
      needed = s.needed;
      selection = seen;
      kept = s.kept;
      taken = s.taken;
      tested = s.tested;
    }

-- what is held once all is made
pub held_as : (known : Collection) (texts : List (List ℕ)) (slots slots' : List (Option Matched)) (bodies : List (List TrackedAssignment))
    (needed : List Bool) (seen : List Wanted) (kept kept' : ℕ) → slots ≡ slots' → bodies ≡ bodies_of known →
    seen ≡ looked_up known.names texts → kept ≡ kept' →
    record { is_initialized = true; slots = slots; bodies = bodies; needed = needed; selection = seen; kept = kept; taken = 0; tested = 0 }
    ≡ record (initial_content known texts) { slots = slots'; needed = needed; kept = kept' }
held_as known texts slots slots' bodies needed seen kept kept' e f g h = grind (arith, nat_tests)

-- a number without an answer is passed over
pub found_skip : (slots : List (Option Matched)) (i : ℕ) → i < length slots → get_or slots i None ≡ None → found_in (drop i slots) ≡ found_in
    (drop (i + 1) slots)
found_skip slots i lt e = grind (arith, nat_tests, drop_more)

-- slots without a match are passed over
pub found_over : (slots : List (Option Matched)) (from number gap : ℕ) → from + gap ≡ number → number ≤ length slots →
    ((k : ℕ) → from ≤ k → k < number → get_or slots k None ≡ None) → found_in (drop from slots) ≡ found_in (drop number slots)
found_over slots from number zero e le free = let same : from ≡ number = omega (arith, e) in ap (λ n. found_in (drop n slots)) same
found_over slots from number (suc gap) e le free = grind (arith, nat_tests, found_skip, found_over slots (from + 1) number gap)

pub next_found : (slots : List (Option Matched)) (from number : ℕ) → IsNextFilled slots from number → IsNextFound slots from number
next_found slots from number next = grind (arith, nat_tests, found_over slots from number (number - from), false≢true, is_some, get_or_past, cases_lt)

pub nothing_found : (slots : List (Option Matched)) (from : ℕ) → AreFreeFrom slots from → found_in (drop from slots) ≡ []
nothing_found slots from free = grind (arith, nat_tests, found_over slots from (length slots) (length slots - from), drop_all)

-- resetting again changes nothing
pub emptied_again : (held : Content) → reset_content (reset_content held) ≡ reset_content held
emptied_again held =
    let Emptied : List (Option Matched) → Content = λ slots. record held { is_initialized = true; slots = slots; kept = 0; taken = 0; tested = 0 } in
    ap Emptied (same_empty None (map (λ slot. None) held.slots) held.slots (length-map held.slots (λ slot. None)))

-- an outcome that was just initialised is as after a reset
pub reset_at_first : (known : Collection) (names : List (List ℕ)) → reset_content (initial_content known names) ≡ initial_content known names
reset_at_first known names =
    ap (λ slots. record (initial_content known names) { slots = slots })
    (same_empty None (map (λ name. None) known.names) known.names (length-map known.names (λ name. None)))

-- after a search, a reset leaves what it left before
pub reset_searched : (before after : Content) → KeepsAllButAnswers before after → reset_content after ≡ reset_content before
reset_searched before after kept =
    ap reset_content kept.rest ∙ ap (λ slots. record (reset_content before) { slots = slots }) (same_empty None after.slots before.slots kept.count)

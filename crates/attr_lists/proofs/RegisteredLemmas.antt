-- The macros of lists, line by line, against the lines.
use Rattle.std.proofs.Common.{◌≡◌, ◌≢◌, ◌⊎◌, ℕ, ◌<◌, ◌+◌, ◌-◌, true, false, List, [], ◌∷◌, ◌++◌, length, get_or, drop, map}
use Rattle.std.proofs.Common.{filter, slice_get, bytes_eq, Option, None, IfSome, unwrap_or, option_map, refl, sym, ap, ◌∙◌, ⊎_elim}
use Rattle.std.proofs.Common.{inl, inr, All, Bool, arith}
use Rattle.std.specs.Prelude.{is_some, ◌&&◌, ◌^◌}
use Rattle.std.specs.Option.{SomeIff}
use Rattle.std.specs.List.{AllZip, HoldsAt}
use Rattle.std.specs.List.Sorted.{IsBinarySearchResult, IsNonDecreasingBy, IsSearchInRange}
use Rattle.std.specs.Prelude.{MatchOption}
use Rattle.std.specs.Result.{result_ok}
use Rattle.std.specs.Ordering.{nat_cmp}
use Rattle.std.proofs.Common.{Equal, Result, Ok, Err}
use Rattle.std.proofs.lemmas.Cmp.{ranked}
use Rattle.std.specs.Cmp.Lexicographic.{bytes_decides}
use Rattle.std.proofs.lemmas.Bool.{cases_Bool, cases_eq, cases_lt, cond-true, cond-false}
use Rattle.std.proofs.lemmas.Bool.Decides.{nat_tests}
use Rattle.std.proofs.lemmas.List.{at_drop_more, get_or_default, length-map}
use Rattle.std.proofs.lemmas.List.Elements.{All-head, All-tail, All-map}
use Rattle.std.proofs.lemmas.Option.{slice_get-map}
use Rattle.attr_glob.specs.declared.search.pattern.Mapping.{Mapping}
use Rattle.attr_lists.specs.Definitions.{bodies_named, defines_name}
use Rattle.attr_lists.specs.Collections.{NumberedBody}
use Rattle.attr_lists.specs.ListViews.{Entry, entry_view, entries_view}
use Rattle.attr_lists.specs.inner.Registered.{numbered_body, registered_view, registered_views, bodies_of_name, AgreesOn, AreAscending, Defines}
use Rattle.attr_lists.specs.inner.Registered.{IsAbove, IsIndexOf, SharedMacro}
use Rattle.attr_lists.specs.inner.NameSteps.{has_name_at}
use Rattle.attr_lists.specs.declared.name_table.registered.ListMacros.{ListMacros}
use Rattle.attr_lists.specs.contracts.name_table.registered.ListMacrosClone.TheImpl as clone
use Rattle.attr_lists.specs.declared.types.AttributeId.{AttributeId}
use Rattle.attr_lists.specs.declared.types.TrackedAssignment.{TrackedAssignment}
use Rattle.attr_lists.specs.declared.types.Value.{Value}
use Rattle.attr_lists.proofs.DefinitionLemmas.{bodies_named-cons}
use Rattle.attr_lists.proofs.ListLemmas.{get_or-map, map_copied}
use Rattle.std.proofs.lemmas.Option.{slice_get-get_or}

-- nothing passes the test, or what follows from an element that passes
none_or : {X : Type 0} (p : X → Bool) (P : X → Type 0) (Q : Type 0) → ((x : X) → P x → p x ≡ true → Q) → (xs : List X) → All P xs
    → (filter p xs ≡ []) ⊎ Q
none_or p P Q follows [] h = inl refl
none_or p P Q follows (x ∷ xs) h =
    ⊎_elim (λ yes. inr (follows x (All-head P x xs h) yes))
    (λ no. ⊎_elim (λ none. inl (cond-false (p x) (x ∷ filter p xs) (filter p xs) no ∙ none)) (λ here. inr here)
    (none_or p P Q follows xs (All-tail P x xs h)))
    (cases_Bool (p x))

-- a list and lines agree on each name if they do on those of the macros and on those that the lines define
module _ (names : List (List ℕ)) (list : List SharedMacro) (lines : List (Mapping Value)) where
  abbrev Agrees : List ℕ → Type 0
  Agrees = AgreesOn names (map numbered_body list) (entries_view lines)

  at_number : (name : List ℕ) (o : Option (List ℕ)) → IfSome o Agrees → unwrap_or (option_map (bytes_eq name) o) false ≡ true → Agrees name
  at_number name o h e = grind (arith, bytes_decides)

  in_line : (name text : List ℕ) (m : Option AttributeId) → IfSome m (λ _. Agrees text) → (is_some m && bytes_eq name text) ≡ true → Agrees name
  in_line name text m h e = grind (arith, bytes_decides)

  pub all_agree : All (λ m. IfSome (slice_get names m.value.id.0) Agrees) list
      → All (λ m. IfSome (entry_view m).macro (λ _. Agrees (entry_view m).pattern.text)) lines → (name : List ℕ) → Agrees name
  all_agree macros defined name =
      let here = λ (b : NumberedBody). IfSome (slice_get names b.number) Agrees in
      let there = λ (e : Entry). IfSome e.macro (λ _. Agrees e.pattern.text) in
      ⊎_elim
      (λ none. ⊎_elim (λ lack. ap (map (λ (b : NumberedBody). b.body)) none ∙ sym (ap (map (λ (e : Entry). e.items)) lack)) (λ agrees. agrees)
      (none_or (defines_name name) there (Agrees name) (λ e. in_line name e.pattern.text e.macro) (entries_view lines)
      (All-map there entry_view lines defined)))
      (λ agrees. agrees)
      (none_or (λ b. has_name_at names name b.number) here (Agrees name) (λ b. at_number name (slice_get names b.number)) (map numbered_body list)
      (All-map here numbered_body list macros))

-- a line that defines a macro by its name and its body
pub more_line : (names : List (List ℕ)) (line : Entry) (text : List ℕ) (items : List TrackedAssignment) (known : NumberedBody)
    (rest : List NumberedBody) → Defines line text items → has_name_at names text known.number ≡ true → known.body ≡ items → (name : List ℕ)
    → bodies_of_name names (known ∷ rest) name ≡ bodies_named name (line ∷ []) ++ bodies_of_name names rest name
more_line names line text items known rest defines named same name =
    grind (arith, cond-true, cond-false, cases_Bool, bytes_decides, defines, named)

-- a line has the body if it defines the name
pub line_body : (line : Entry) (text name : List ℕ) (items : List TrackedAssignment) → Defines line text items → bytes_eq text name ≡ true
    → bodies_named name (line ∷ []) ≡ items ∷ []
line_body line text name items defines same = grind (arith, cond-true, bytes_decides, defines)

pub line_other : (line : Entry) (text name : List ℕ) (items : List TrackedAssignment) → Defines line text items → bytes_eq text name ≡ false
    → bodies_named name (line ∷ []) ≡ []
line_other line text name items defines other = grind (arith, cond-false, bytes_decides, cases_Bool, defines)

pub line_none : (line : Entry) (name : List ℕ) → line.macro ≡ None → bodies_named name (line ∷ []) ≡ []
line_none line name none = grind (arith, cond-false)

-- the lines from one on, which is the first of them
pub lines_from : (lines : List (Mapping Value)) (i : ℕ) (line : Mapping Value) (name : List ℕ) → i < length lines → line ≡ get_or lines i line
    → bodies_named name (entry_view line ∷ []) ++ bodies_named name (entries_view (drop (i + 1) lines))
    ≡ bodies_named name (entries_view (drop i lines))
lines_from lines i line name lt at =
    sym (bodies_named-cons name (entry_view line) (entries_view (drop (i + 1) lines)))
    ∙ ap (λ l. bodies_named name (entry_view l ∷ entries_view (drop (i + 1) lines))) at
    ∙ sym (at_drop_more (λ (l : List (Mapping Value)). bodies_named name (entries_view l)) lines i line lt)

-- the ids of lists that ascend don't fall
pub rising : (lists : List ListMacros) → AreAscending (registered_views lists) → IsNonDecreasingBy (λ l. l.list_id) lists
rising lists ascend = grind (arith, length-map lists registered_view, get_or-map registered_view lists, cases_eq)

found : (lists : List ListMacros) (list_id at : ℕ) → at < length lists → HoldsAt (λ l. nat_cmp l.list_id list_id ≡ Equal) lists at
    → IsIndexOf list_id (registered_views lists) at
found [] list_id at lt equal = absurd (omega arith)
found (l ∷ lists) list_id at lt equal = (
  registered_view (get_or (l ∷ lists) at l),
  slice_get-map registered_view (l ∷ lists) at ∙ ap (option_map registered_view) (slice_get-get_or (l ∷ lists) at l lt),
  ranked _ list_id _ (sym (equal l)),
)

-- a search by halving finds the list, or none has the list id
pub searched : (lists : List ListMacros) (list_id : ℕ) → AreAscending (registered_views lists) → (r : Result ℕ ℕ) → IsSearchInRange r (length lists)
    → IsBinarySearchResult (λ l. nat_cmp l.list_id list_id) lists r
    → MatchOption (result_ok r) (All (λ l. l.list_id ≢ list_id) (registered_views lists)) (IsIndexOf list_id (registered_views lists))
searched lists list_id ascend (Ok at) within equal = found lists list_id at within equal
searched lists list_id ascend (Err at) within parted =
    let apart = parted (λ i j d le lt. let up = rising lists ascend i j d le lt in grind (arith, nat_tests)) in
    All-map (λ l. l.list_id ≢ list_id) registered_view lists (λ k d lt e.
    ⊎_elim (λ before. omega (arith, e, ranked _ list_id _ (sym (apart.0 k d (omega arith) before))))
    (λ after. omega (arith, e, ranked _ list_id _ (sym (apart.1 k d after lt)))) (cases_lt k at))

-- no list has an id above the last one's
above_last : (lists : List ListMacros) (last : ListMacros) (list_id : ℕ) → AreAscending (registered_views lists)
    → last ≡ get_or lists (length lists - 1) last → last.list_id < list_id → IsAbove list_id (registered_views lists)
above_last lists last list_id ascend is lt = All-map (λ l. l.list_id < list_id) registered_view lists (λ k d within.
    let own : last.list_id ≡ (get_or lists (length lists - 1) d).list_id =
    ap (λ (l : ListMacros). l.list_id) (is ∙ get_or_default lists (length lists - 1) last d (omega arith)) in
    omega (arith, own, rising lists ascend k (length lists - 1) d (omega arith) (omega arith)))

pub next_above : (lists : List ListMacros) (last : ListMacros) (next : Option ℕ) → AreAscending (registered_views lists)
    → last ≡ get_or lists (length lists - 1) last → SomeIff next (last.list_id + 1 < 2 ^ 64) (last.list_id + 1)
    → IfSome next (λ list_id. IsAbove list_id (registered_views lists))
next_above lists last next ascend is sum = grind (arith, above_last lists last)

pub lists_copied : (lists copies : List ListMacros) → AllZip clone.ghosts.is_clone lists copies → registered_views copies ≡ registered_views lists
lists_copied lists copies same = map_copied registered_view clone.ghosts.is_clone (λ x y h. grind (arith, map_copied)) lists copies same

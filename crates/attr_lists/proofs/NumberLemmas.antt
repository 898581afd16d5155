-- Lines whose items have the numbers of their names.
use Rattle.std.proofs.Common.{◌≡◌, ℕ, ◌+◌, ◌<◌, true, false, cond, ltb, List, [], ◌∷◌, ◌++◌, length, get_or, set, map, drop, bytes_eq}
use Rattle.std.proofs.Common.{Some, None, refl, sym, ap, subst, ◌∙◌, arith}
use Rattle.std.specs.List.{list_any}
use Rattle.std.proofs.lemmas.Bool.{cases_Bool, cond-true, lt-ltb}
use Rattle.std.proofs.lemmas.List.Sums.{position_or_len_is}
use Rattle.std.proofs.lemmas.List.{length-append, length-map, get_or_append_left, get_or_at, get_or_default}
use Rattle.std.proofs.lemmas.List.Folds.{list_any_at}
use Rattle.std.proofs.lemmas.List.Quantifiers.{position-Some}
use Rattle.attr_glob.specs.declared.search.pattern.Mapping.{Mapping}
use Rattle.attr_lists.specs.declared.types.TrackedAssignment.{TrackedAssignment}
use Rattle.attr_lists.specs.declared.types.Value.{Value}
use Rattle.attr_lists.specs.KeptLists.{macro_valid, macros_valid}
use Rattle.attr_lists.specs.ListViews.{entry_view, entries_view}
use Rattle.attr_lists.specs.Numbers.{names_of, names_in, number_of, id_of, with_name, with_names, numbered_item, numbered}
use Rattle.attr_lists.proofs.NameLemmas.{items_step, lines_step, with_name-known}
use Rattle.attr_lists.proofs.NameTableLaws.{has_own, id_stays, line_stays}
use Rattle.attr_lists.proofs.NamedDefinitions.{Has, itself}
use Rattle.attr_lists.proofs.ListLemmas.{front, front-at, front-more, front-step, get_or-map, list_all-within}

-- the next line is as it was
at_front : (names : List (List ℕ)) (start lines : List (Mapping Value)) (i : ℕ) (d : Mapping Value) → entries_view lines ≡ front (numbered names) i
    (entries_view start) → entry_view (get_or lines i d) ≡ get_or (entries_view start) i (entry_view d)
at_front names start lines i d e =
    sym (get_or-map entry_view lines i d) ∙ ap (λ l. get_or l i (entry_view d)) e ∙ front-at (numbered names) i (entries_view start) (entry_view d)

pub unnumbered_valid : (names : List (List ℕ)) (start lines : List (Mapping Value)) (i : ℕ) (d : Mapping Value) → i < length start → entries_view
    lines ≡ front (numbered names) i (entries_view start) → macros_valid (entries_view start) ≡ true → macro_valid (entry_view (get_or lines i d)) ≡
    true
unnumbered_valid names start lines i d lt e valid =
    ap macro_valid (at_front names start lines i d e) ∙ list_all-within macro_valid (entries_view start) i (entry_view d)
    (omega (arith, length-map start entry_view)) valid

abbrev names : List TrackedAssignment → List (List ℕ)
names items = map (λ x. x.inner.name) items

-- one more item gets its number, which stays when names are taken after it
module _ (start : List (List ℕ)) (items : List TrackedAssignment) where
  abbrev final : List (List ℕ)
  final = with_names start (names items)

  pub item_step : (known now : List (List ℕ)) (done : List TrackedAssignment) (i : ℕ) (d item : TrackedAssignment) (text : List ℕ) → i < length items
      → done ≡ front (numbered_item final) i items → text ≡ (get_or done i d).inner.name → now ≡ with_name known text
      → item ≡ numbered_item now (get_or done i d) → with_names known (names (drop i items)) ≡ final
      → (with_names now (names (drop (i + 1) items)) ≡ final) × (set done i item ≡ front (numbered_item final) (i + 1) items)
  item_step known now done i d item text lt e is entered numbered h =
      let own = get_or items i d in
      let here : get_or done i d ≡ own = ap (λ l. get_or l i d) e ∙ front-at (numbered_item final) i items d in
      let name : text ≡ own.inner.name = is ∙ ap (λ (x : TrackedAssignment). x.inner.name) here in
      let rest = items_step known now items i own text final lt (get_or_default items i d own lt) name entered h in
      let has : Has now own.inner.name = subst (Has now) name (subst (λ l. Has l text) (sym entered) (has_own known text)) in
      let stays = id_stays now (names (drop (i + 1) items)) own.inner.name has ∙ ap (λ l. id_of l own.inner.name) rest in (
        rest,
        front-more (numbered_item final) i items done item d lt
            (numbered ∙ ap (numbered_item now) here ∙ ap (λ id. record { id = id; inner = own.inner }) stays ∙ ap (numbered_item final) (sym here)) e,
      )

-- one more line gets its numbers
module _ (start : List (List ℕ)) (lines : List (Mapping Value)) where
  abbrev all : List (List ℕ)
  all = with_names start (names_in (entries_view lines))

  pub line_step : (known now : List (List ℕ)) (done : List (Mapping Value)) (i : ℕ) (d line : Mapping Value) → i < length lines
      → entries_view done ≡ front (numbered all) i (entries_view lines) → now ≡ with_names known (names_of (entry_view (get_or done i d)))
      → entry_view line ≡ numbered now (entry_view (get_or done i d)) → with_names known (names_in (entries_view (drop i lines))) ≡ all
      → (with_names now (names_in (entries_view (drop (i + 1) lines))) ≡ all)
      × (entries_view (set done i line) ≡ front (numbered all) (i + 1) (entries_view lines))
  line_step known now done i d line lt e entered is h =
      let own = get_or lines i d in
      let here : entry_view (get_or done i d) ≡ entry_view own = at_front all lines done i d e ∙ get_or-map entry_view lines i d in
      let taken : now ≡ with_names known (names_of (entry_view own)) = entered ∙ ap (λ e. with_names known (names_of e)) here in
      let rest = lines_step known now lines i own all lt (get_or_default lines i d own lt) taken h in
      let more = names_in (entries_view (drop (i + 1) lines)) in
      let stays : numbered now (entry_view own) ≡ numbered all (entry_view own) =
      ap (λ l. numbered l (entry_view own)) taken ∙ line_stays known more (entry_view own)
      ∙ ap (λ l. numbered (with_names l more) (entry_view own)) (sym taken) ∙ ap (λ l. numbered l (entry_view own)) rest in (
        rest,
        front-step entry_view (numbered all) lines done i d line lt e (is ∙ ap (numbered now) here ∙ stays ∙ ap (numbered all) (sym here)),
      )

-- the number of a name that was not there
pub number_of_new : (known : List (List ℕ)) (name : List ℕ) → list_any (bytes_eq name) known ≡ false
    → number_of (known ++ name ∷ []) name ≡ Some (length known)
number_of_new known name new =
    let whole = known ++ name ∷ [] in
    let at = position_or_len_is (bytes_eq name) whole (length known) [] (omega (arith, length-append known (name ∷ [])))
    (λ k lt. ap (bytes_eq name) (get_or_append_left known (name ∷ []) [] k lt) ∙ not_at k lt)
    (λ inside. ap (bytes_eq name) (get_or_at known name [] [] (length known) refl) ∙ itself name) in
    ap (λ i. cond (ltb i (length whole)) (Some i) None) at
    ∙ cond-true (ltb (length known) (length whole)) (Some (length known)) None (lt-ltb _ _ (omega (arith, length-append known (name ∷ []))))
  where
    not_at : (k : ℕ) → k < length known → bytes_eq name (get_or known k []) ≡ false
    not_at k lt = grind (arith, list_any_at (bytes_eq name) known k [] lt, cases_Bool, new)

-- a name that has a number is not taken again
pub numbered_known : (names : List (List ℕ)) (name : List ℕ) (n : ℕ) → number_of names name ≡ Some n → names ≡ with_name names name
numbered_known names name n e =
    let here = position-Some (bytes_eq name) names n [] e in
    sym (with_name-known names name (list_any_at (bytes_eq name) names n [] here.0 here.1))

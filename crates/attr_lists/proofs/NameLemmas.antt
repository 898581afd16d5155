-- Names by number: a list that takes names grows at its end, and its names differ and are valid.
use Rattle.std.proofs.Common.{◌≡◌, ℕ, ◌+◌, ◌<◌, true, false, List, [], ◌∷◌, ◌++◌, length, get_or, drop, map, bytes_eq}
use Rattle.std.specs.Prelude.{IsErr}
use Rattle.std.proofs.Common.{Result, Ok, refl, sym, ap, subst, ◌∙◌, ⊎_elim, arith}
use Rattle.std.specs.List.{list_any, IsDistinct}
use Rattle.std.specs.Cmp.Lexicographic.{nat_list_eq_equiv}
use Rattle.std.proofs.lemmas.Bool.{cases_Bool, cond-true, cond-false}
use Rattle.std.proofs.lemmas.List.{append-nil, append_assoc, at_drop_more, length-append, get_or_at, get_or_default, get_or_append_left}
use Rattle.std.proofs.lemmas.List.Folds.{list_any_none}
use Rattle.std.proofs.lemmas.List.Sums.{fold-append}
use Rattle.std.proofs.lemmas.Map.Keys.{IsDistinct-push, apart_from_distinct}
use Rattle.attr_glob.specs.declared.search.pattern.Mapping.{Mapping}
use Rattle.attr_lists.specs.declared.types.TrackedAssignment.{TrackedAssignment}
use Rattle.attr_lists.specs.declared.types.Value.{Value}
use Rattle.attr_lists.specs.ListViews.{entry_view, entries_view}
use Rattle.attr_lists.specs.inner.NameSteps.{InsertsNames, ReadsWithNames}
use Rattle.attr_lists.specs.Numbers.{AppendsNames, names_of, names_in, with_name, with_names}

-- a name that is there is not inserted again
pub with_name-known : (known : List (List ℕ)) (name : List ℕ) → list_any (bytes_eq name) known ≡ true → with_name known name ≡ known
with_name-known known name e = cond-true (list_any (bytes_eq name) known) known (known ++ name ∷ []) e

pub with_name-new : (known : List (List ℕ)) (name : List ℕ) → list_any (bytes_eq name) known ≡ false → with_name known name ≡ known ++ name ∷ []
with_name-new known name e = cond-false (list_any (bytes_eq name) known) known (known ++ name ∷ []) e

-- names are taken at the end
pub with_name-extends : (known : List (List ℕ)) (name : List ℕ) → (more : List (List ℕ)) × (with_name known name ≡ known ++ more)
with_name-extends known name =
    ⊎_elim (λ e. ([], with_name-known known name e ∙ sym (append-nil known))) (λ e. (name ∷ [], with_name-new known name e))
    (cases_Bool (list_any (bytes_eq name) known))

pub extends_again : (start now more next rest : List (List ℕ)) → now ≡ start ++ more → next ≡ now ++ rest → (more : List (List ℕ)) ×
    (next ≡ start ++ more)
extends_again start now more next rest e f = (more ++ rest, f ∙ ap (λ l. l ++ rest) e ∙ append_assoc start more rest)

pub with_names-extends : (known names : List (List ℕ)) → (more : List (List ℕ)) × (with_names known names ≡ known ++ more)
with_names-extends known [] = ([], sym (append-nil known))
with_names-extends known (name ∷ names) =
    let one = with_name-extends known name in
    let rest = with_names-extends (with_name known name) names in
    extends_again known (with_name known name) one.0 (with_names known (name ∷ names)) rest.0 one.1 rest.1

-- names that are taken after others that were appended
pub inserted_after : (start now next names : List (List ℕ)) → (more : List (List ℕ)) × (now ≡ start ++ more) → next ≡ with_names now names
    → (more : List (List ℕ)) × (next ≡ start ++ more)
inserted_after start now next names appended e =
    let rest = with_names-extends now names in
    extends_again start now appended.0 next rest.0 appended.1 (e ∙ rest.1)

-- some of the names were inserted before memory ran out
pub not_inserted : {X E : Type 0} (result : Result X E) (names old new : List (List ℕ)) → IsErr result → AppendsNames old new
    → InsertsNames result names old new
not_inserted result names old new err appended = grind arith

-- it was read, or some of its names were inserted before memory ran out
pub was_read : {X E : Type 0} (x : X) (IsRead : X → Type 0) (old new : List (List ℕ)) → IsRead x → ReadsWithNames {E = E} (Ok x) IsRead old new
was_read x IsRead old new read = grind arith

pub not_read : {X E : Type 0} (result : Result X E) (IsRead : X → Type 0) (old new : List (List ℕ)) → IsErr result → AppendsNames old new
    → ReadsWithNames result IsRead old new
not_read result IsRead old new err appended = grind arith

-- names differ
with_name-distinct : (known : List (List ℕ)) (name : List ℕ) → IsDistinct bytes_eq known → IsDistinct bytes_eq (with_name known name)
with_name-distinct known name d =
    ⊎_elim (λ e. subst (IsDistinct bytes_eq) (sym (with_name-known known name e)) d)
    (λ e. subst (IsDistinct bytes_eq) (sym (with_name-new known name e)) (IsDistinct-push nat_list_eq_equiv known name d e))
    (cases_Bool (list_any (bytes_eq name) known))

pub with_names-distinct : (known names : List (List ℕ)) → IsDistinct bytes_eq known → IsDistinct bytes_eq (with_names known names)
with_names-distinct known [] d = d
with_names-distinct known (name ∷ names) d = with_names-distinct (with_name known name) names (with_name-distinct known name d)

-- names that differ are none of those before them
pub not_before : (front : List (List ℕ)) (name : List ℕ) (rest : List (List ℕ)) → IsDistinct bytes_eq (front ++ name ∷ rest) →
    list_any (bytes_eq name) front ≡ false
not_before front name rest distinct =
    let index : get_or (front ++ name ∷ rest) (length front) name ≡ name = get_or_at front name rest name (length front) refl in
    list_any_none (bytes_eq name) front (λ k e lt.
    nat_list_eq_equiv.symm name (get_or front k e)
    ∙ ap (λ x. bytes_eq x name) (get_or_default front k e name lt ∙ sym (get_or_append_left front (name ∷ rest) name k lt))
    ∙ ap (bytes_eq (get_or (front ++ name ∷ rest) k name)) (sym index)
    ∙ apart_from_distinct bytes_eq (front ++ name ∷ rest) k (length front) name distinct lt (omega (arith, length-append front (name ∷ rest))))

-- one more name of the items
pub items_step : (names now : List (List ℕ)) (items : List TrackedAssignment) (i : ℕ) (item : TrackedAssignment) (text : List ℕ) (all : List (List ℕ))
    → i < length items → item ≡ get_or items i item → text ≡ item.inner.name → now ≡ with_name names text → with_names names
    (map (λ (x : TrackedAssignment). x.inner.name) (drop i items)) ≡ all → with_names now
    (map (λ (x : TrackedAssignment). x.inner.name) (drop (i + 1) items)) ≡ all
items_step names now items i item text all lt at is entered h =
    let name = λ (x : TrackedAssignment). x.inner.name in
    let rest = λ (l : List TrackedAssignment). with_names names (map name l) in
    ap (λ n. with_names n (map name (drop (i + 1) items))) (entered ∙ ap (with_name names) (is ∙ ap name at))
    ∙ sym (at_drop_more rest items i item lt) ∙ h

-- the names of one more line
pub lines_step : (names now : List (List ℕ)) (lines : List (Mapping Value)) (i : ℕ) (line : Mapping Value) (all : List (List ℕ)) → i < length lines →
    line ≡ get_or lines i line → now ≡ with_names names (names_of (entry_view line)) → with_names names (names_in (entries_view (drop i lines))) ≡ all
    → with_names now (names_in (entries_view (drop (i + 1) lines))) ≡ all
lines_step names now lines i line all lt at entered h =
    let rest = λ (l : List (Mapping Value)). with_names names (names_in (entries_view l)) in
    let behind = names_in (entries_view (drop (i + 1) lines)) in
    ap (λ n. with_names n behind) (entered ∙ ap (λ l. with_names names (names_of (entry_view l))) at)
    ∙ sym (fold-append with_name names (names_of (entry_view (get_or lines i line))) behind)
    ∙ sym (at_drop_more rest lines i line lt) ∙ h

-- What was kept keeps its index.
use Rattle.std.proofs.Common.{option_map}
use Rattle.std.proofs.Common.{◌≡◌, ℕ, ◌<◌, ◌≤◌, ◌-◌, List, [], ◌∷◌, ◌++◌, length, get_or, map, Some, slice_get, sym, ap, ◌∙◌, arith, length-append}
use Rattle.std.proofs.lemmas.List.{append-nil, map-append, get_or_append_left}
use Rattle.std.proofs.Math.Seq.{get_or-append_seam}
use Rattle.std.proofs.lemmas.Option.{get_or_from_slice_get, slice_get-get_or, slice_get-map, slice_get_within}
use Rattle.attr_lists.specs.declared.types.TrackedAssignment.{TrackedAssignment}
use Rattle.attr_search.specs.declared.item_index.ItemIndex.{ItemIndex}
use Rattle.attr_table.specs.Setting.{Origin}
use Rattle.attr_search.specs.declared.matching_line.AnsweringLine.{AnsweringLine}
use Rattle.attr_search.specs.inner.AnswerRefs.{IsMatchRef, KeepsItem, match_by_ref}
use Rattle.attr_search.specs.inner.PartsView.{last_origin, origins, parts_view}
use Rattle.attr_search.specs.inner.Pending.{IsInside, indexed_item, item_answer}
use Rattle.attr_search.specs.shared.Slotted.{SharedBody, bodies_view, no_origin}
use Rattle.attr_search.specs.inner.PartsContents.{Grows}

-- a list that stays grows by nothing
pub grows_same : {X : Type 0} (xs : List X) → Grows xs xs
grows_same xs = ([], sym (append-nil xs))

-- what was pushed is seen after what was there
pub grows_pushed : {T V : Type 0} (view : T → V) (xs ys : List T) (y : T) → ys ≡ xs ++ y ∷ [] → Grows (map view xs) (map view ys)
grows_pushed view xs ys y e = (view y ∷ [], ap (map view) e ∙ map-append view xs (y ∷ []))

-- and it is the last
pub last_pushed : {T V : Type 0} (view : T → V) (xs ys : List T) (y : T) → ys ≡ xs ++ y ∷ [] → slice_get (map view ys) (length ys - 1) ≡ Some (view y)
last_pushed view xs ys y e =
    let index : length ys - 1 ≡ length xs = omega (arith, ap length e, length-append xs (y ∷ [])) in
    rw (index, e) (slice_get-map view (xs ++ y ∷ []) (length xs) ∙ ap (option_map view)
    (slice_get-get_or (xs ++ y ∷ []) (length xs) y (omega (arith, length-append xs (y ∷ []))) ∙ ap Some (get_or-append_seam xs y [] y)))

pub grows_length : {X : Type 0} (xs ys : List X) → Grows xs ys → length xs ≤ length ys
grows_length xs ys g = omega (arith, ap length g.1, length-append xs g.0)

-- what stood at an index stands there
pub grows_at : {X : Type 0} (xs ys : List X) (i : ℕ) (d : X) → Grows xs ys → i < length xs → get_or ys i d ≡ get_or xs i d
grows_at xs ys i d g lt = ap (λ l. get_or l i d) g.1 ∙ get_or_append_left xs g.0 d i lt

-- the line that was kept last
pub last_kept : (lines : List AnsweringLine) (count : ℕ) (origin : Origin) → count ≡ length lines → last_origin lines ≡ Some origin →
    (count - 1 < length (origins lines)) × (get_or (origins lines) (count - 1) no_origin ≡ origin)
last_kept lines count origin same is = grind (arith, slice_get_within, get_or_from_slice_get)

-- the answer by an item that is kept, of that line
pub answer_kept : {line : List TrackedAssignment} {origin : Origin} {at : ItemIndex} {index : ℕ} (lines : List AnsweringLine)
    {before after : List TrackedAssignment} (bodies : List SharedBody) (count : ℕ) →
    count ≡ length lines → last_origin lines ≡ Some origin → KeepsItem line at before after index → IsInside line (bodies_view bodies) at →
    IsMatchRef (parts_view lines after bodies) (record { line = count - 1; at = record { cause = at.cause; index = index } })
    × (match_by_ref (parts_view lines after bodies) (record { line = count - 1; at = record { cause = at.cause; index = index } })
    ≡ item_answer origin (bodies_view bodies) (indexed_item line (bodies_view bodies) at) at.cause)
answer_kept {line} {origin} {at} {index} lines {before} {after} bodies count same is keeps inside = grind (arith, last_kept)

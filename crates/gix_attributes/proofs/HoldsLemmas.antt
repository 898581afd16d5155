-- A collection holds a search after lists are added and removed.
use Rattle.std.proofs.Common.{arith, ◌≡◌, ◌≢◌, ℕ, Bool, false, List, [], ◌∷◌, ◌++◌, map, refl, subst, nat_eq, Some, eq-eqb, get_or}
use Rattle.std.proofs.lemmas.Bool.Decides.{nat_tests}
use Rattle.std.specs.Prelude.{All}
use Rattle.std.specs.List.{AllZip, IsDistinct}
use Rattle.std.specs.Cmp.{IsEquivalence}
use Rattle.std.proofs.lemmas.Bool.{eqb-true}
use Rattle.std.proofs.lemmas.List.{get_or-map, length-map, map-append}
use Rattle.std.proofs.lemmas.List.Elements.{All-nil, All-cons, All-head, All-tail, All-push, All-pop, All-weaker, All-map, All-from_recursion}
use Rattle.std.proofs.lemmas.List.Elements.{recursion_from_All}
use Rattle.std.proofs.lemmas.List.Folds.{list_any_none}
use Rattle.std.proofs.lemmas.Map.Keys.{IsDistinct-push}
use Rattle.attr_lists.specs.Collections.{Collection}
use Rattle.attr_lists.specs.Definitions.{HoldsList, is_registered}
use Rattle.attr_lists.specs.ListViews.{entries_view}
use Rattle.attr_lists.specs.shared.Keeping.{StayRegistered, OthersStayRegistered}
use Rattle.attr_lists.proofs.ForCallers.{held_registered}
use Rattle.gix_attributes.specs.SearchViews.{AreHeld}
use Rattle.gix_attributes.specs.inner.HeldLists.{AreHeldLists, IsHeldList}
use Rattle.attr_search.specs.IndexedLists.{list_ids_of, lists_view}
use Rattle.attr_search.specs.ListView.{Listed}
use Rattle.attr_search.specs.declared.indexed_list.IndexedList.{IndexedList}

other : (known : Collection) (list_id : ℕ) → is_registered known list_id ≡ false → (s : IndexedList) → IsHeldList known s → (b : Bool)
    → nat_eq list_id s.list_id ≡ b → b ≡ false
other known list_id free s held b e = grind (arith, nat_tests, held_registered, eqb-true)

-- one more list, under a list id that no other has
pub held_more : (before after : Collection) (lists : List IndexedList) (s : IndexedList)
    → IsEquivalence nat_eq
    → StayRegistered before after → HoldsList after s.list_id (entries_view s.list.patterns.items) → is_registered before s.list_id ≡ false
    → AreHeldLists before lists → AreHeldLists after (lists ++ s ∷ [])
held_more before after lists s laws keeps new free held =
    let list_ids = map (λ (x : IndexedList). x.list_id) lists in
    let others = All-weaker (IsHeldList before) (λ x. nat_eq s.list_id x.list_id ≡ false)
    (λ x h. other before s.list_id free x h (nat_eq s.list_id x.list_id) refl) lists held.held in
    let apart = list_any_none (nat_eq s.list_id) list_ids (All-map (λ m. nat_eq s.list_id m ≡ false) (λ (x : IndexedList). x.list_id) lists others)
    in
    record {
      distinct = grind (arith, nat_tests, nat_eq, map-append, IsDistinct-push);
      held = All-push (IsHeldList after) lists s (All-weaker (IsHeldList before) (IsHeldList after)
          (λ x h. keeps x.list_id (entries_view x.list.patterns.items) h) lists held.held) new;
    }

-- of list ids that differ the last one differs from those before it
pub distinct-parts : (list_ids : List ℕ) (list_id : ℕ) → IsDistinct nat_eq (list_ids ++ list_id ∷ []) → IsDistinct nat_eq list_ids × All
    (λ m. nat_eq m list_id ≡ false) list_ids
unfolding IsDistinct
distinct-parts [] list_id d = (tt, All-nil (λ m. nat_eq m list_id ≡ false))
distinct-parts (m ∷ ms) list_id d =
    let first = All-pop (λ k. nat_eq m k ≡ false) (ms ++ list_id ∷ []) ms (Some list_id) refl (All-from_recursion (λ k. nat_eq m k ≡ false)
    (ms ++ list_id ∷ []) d.0) in
    grind (arith, nat_tests, recursion_from_All, nat_eq, All-cons, distinct-parts ms list_id d.1)

apart : (x y : ℕ) → nat_eq x y ≡ false → x ≢ y
apart x y differ same = grind (arith, nat_tests, eq-eqb)

-- what holds of each image of an element holds of the element's
pub all_of_map : {X Y : Type 0} (P : Y → Type 0) (f : X → Y) (xs : List X) → All P (map f xs) → All (λ x. P (f x)) xs
all_of_map P f xs h = λ k d lt. subst P (get_or-map f xs k d (f d) lt) (h k (f d) (omega (arith, lt, length-map xs f)))

-- lists under other list ids stay held
pub others_held : (before after : Collection) (list_id : ℕ) → OthersStayRegistered list_id before after → (lists : List IndexedList)
    → All (λ m. m ≢ list_id) (list_ids_of lists) → AreHeldLists before lists → AreHeldLists after lists
others_held before after list_id keeps lists differ are = record {
  distinct = are.distinct;
  held = λ k d lt. keeps (get_or lists k d).list_id (entries_view (get_or lists k d).list.patterns.items)
      (all_of_map (λ m. m ≢ list_id) (λ (s : IndexedList). s.list_id) lists differ k d lt) (are.held k d lt);
}

-- the others stay held when the last one is removed
pub held_less : (before after : Collection) (lists : List IndexedList) (s : IndexedList) → OthersStayRegistered s.list_id before after
    → AreHeldLists before (lists ++ s ∷ []) → AreHeldLists after lists
held_less before after lists s keeps held =
    let parts = distinct-parts (list_ids_of lists) s.list_id (subst (IsDistinct nat_eq)
    (map-append (λ (x : IndexedList). x.list_id) lists (s ∷ [])) held.distinct) in
    others_held before after s.list_id keeps lists
    (All-weaker (λ m. nat_eq m s.list_id ≡ false) (λ m. m ≢ s.list_id) (λ m. apart m s.list_id) (list_ids_of lists) parts.1)
    (record { distinct = parts.0; held = (All-pop (IsHeldList before) (lists ++ s ∷ []) lists (Some s) refl held.held).0 })

-- the list of each list id is registered
IsEach : Collection → ℕ → Listed → Type 0
IsEach known list_id list = HoldsList known list_id list.lines

zip-of_all : (known : Collection) (lists : List IndexedList) → All (IsHeldList known) lists → AllZip (IsEach known) (list_ids_of lists)
    (lists_view lists)
unfolding IsEach
zip-of_all known [] held = tt
zip-of_all known (s ∷ ss) held = (All-head (IsHeldList known) s ss held, zip-of_all known ss (All-tail (IsHeldList known) s ss held))

all-of_zip : (known : Collection) (lists : List IndexedList) → AllZip (IsEach known) (list_ids_of lists) (lists_view lists)
    → All (IsHeldList known) lists
unfolding IsEach
all-of_zip known [] each = All-nil (IsHeldList known)
all-of_zip known (s ∷ ss) each = All-cons (IsHeldList known) s ss each.0 (all-of_zip known ss each.1)

-- what a collection holds by list ids and lists, it holds by indexed lists, and the other way round
pub held_views : (known : Collection) (lists : List IndexedList) → AreHeldLists known lists → AreHeld known (list_ids_of lists) (lists_view lists)
unfolding IsEach
held_views known lists held = record { distinct = held.distinct; each = zip-of_all known lists held.held }

pub held_lists : (known : Collection) (lists : List IndexedList) → AreHeld known (list_ids_of lists) (lists_view lists) → AreHeldLists known lists
unfolding IsEach
held_lists known lists held = record { distinct = held.distinct; held = all-of_zip known lists held.each }

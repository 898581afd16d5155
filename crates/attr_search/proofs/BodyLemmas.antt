-- How bodies grow and change.
use Rattle.std.proofs.Common.{◌≡◌, ℕ, ◌+◌, ◌-◌, ◌<◌, List, [], ◌∷◌, ◌++◌, length, length-take, set, take, replicate, All, None, append_assoc}
use Rattle.std.proofs.Common.{length-append, refl, sym, arith}
use Rattle.std.proofs.lemmas.List.{length-replicate, take-map, length-map, length-set, map_push, map-set, replicate_more, take-append-le}
use Rattle.std.proofs.lemmas.List.Elements.{All-same, All-tail}
use Rattle.std.specs.List.{AllZip}
use Rattle.attr_lists.specs.declared.types.TrackedAssignment.{TrackedAssignment}
use Rattle.attr_search.specs.declared.bodies.BodyChange.{BodyChange}
use Rattle.attr_search.specs.shared.BodyChanges.{changed_bodies, sized_bodies}
use Rattle.attr_search.specs.shared.Slotted.{SharedBody, bodies_view, defined_items}

-- one more empty body
pub grown_more : (old now after : List SharedBody) (n : ℕ) →
    after ≡ now ++ None ∷ [] → bodies_view now ≡ bodies_view old ++ replicate n [] → bodies_view after ≡ bodies_view old ++ replicate (n + 1) []
grown_more old now after n pushed so_far = grind (arith, map_push, append_assoc, replicate_more)

-- copies that share the bodies are seen alike
pub shared_alike : (R : SharedBody → SharedBody → Type 0) → ((x y : SharedBody) → R x y → defined_items y ≡ defined_items x) →
    (bodies copies : List SharedBody) → AllZip R bodies copies → bodies_view copies ≡ bodies_view bodies
shared_alike R same [] [] h = refl
shared_alike R same (x ∷ bodies) (y ∷ copies) h = grind (arith, shared_alike R same bodies copies, same x y)
shared_alike R same bodies copies h = grind arith

-- what there was stays in front
pub kept_more : {X : Type 0} (old now after : List X) (x : X) → after ≡ now ++ x ∷ [] → take (length old) now ≡ old → take (length old) after ≡ old
kept_more old now after x pushed kept = grind (arith, length-take, take-append-le)

-- one change is made, and the others are left
pub change_made : (left rest : List BodyChange) (change : BodyChange) (bodies : List SharedBody)
    (made : List (List TrackedAssignment)) → left ≡ change ∷ rest → changed_bodies left (bodies_view bodies) ≡ made →
    changed_bodies rest (bodies_view (set bodies change.number change.body)) ≡ made
change_made left rest change bodies made e told = grind (arith, map-set)

pub change_below : (left rest : List BodyChange) (change : BodyChange) (bodies : List SharedBody) → left ≡ change ∷ rest →
    All (λ c. c.number < length bodies) left → All (λ c. c.number < length (set bodies change.number change.body)) rest
change_below left rest change bodies e below =
    let all = All-same (λ c. c.number < length bodies) (change ∷ rest) left (sym e) below in
    rw (length-set bodies change.number change.body) (All-tail (λ c. c.number < length bodies) change rest all)

-- bodies that were grown are cut to a count
pub cut_sized : (old grown cut : List SharedBody) (count : ℕ) →
    bodies_view grown ≡ bodies_view old ++ replicate (count - length old) [] → cut ≡ take count grown →
    bodies_view cut ≡ sized_bodies count (bodies_view old)
cut_sized old grown cut count grows is = grind (arith, length-map, take-map)

pub length_sized : (count : ℕ) (bodies : List (List TrackedAssignment)) → length (sized_bodies count bodies) ≡ count
length_sized count bodies = grind (arith, length-append, length-replicate, length-take)

pub length_resized : (cut : List SharedBody) (old : List (List TrackedAssignment)) (count : ℕ) → bodies_view cut ≡ sized_bodies count old
    → length cut ≡ count
length_resized cut old count is = grind (arith, length-map, length_sized)

pub length_changed : (changes : List BodyChange) (bodies : List (List TrackedAssignment)) → length (changed_bodies changes bodies) ≡ length bodies
length_changed [] bodies = refl
length_changed (c ∷ changes) bodies = grind (arith, length-set, length_changed changes)

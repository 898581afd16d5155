-- How bodies are made those of a collection, number by number (own).
use Rattle.std.specs.Prelude.{◌≡◌, ℕ, false, List, [], length, slice_index_or, ◌⊎◌}
use Rattle.std.specs.BTreeMap.{is_at}
use Rattle.std.specs.List.{list_any}
use Rattle.std.specs.Ordering.{nat_cmp}
use Rattle.attr_lists.specs.Collections.{Collection}
use Rattle.attr_lists.specs.declared.types.TrackedAssignment.{TrackedAssignment}
use Rattle.attr_search.specs.declared.bodies.BodyChange.{BodyChange}
use Rattle.attr_search.specs.shared.BodyChanges.{changed_bodies, sized_bodies}
use Rattle.gix_attributes.specs.Contents.{bodies_of}

-- the bodies, as many as there are names
abbrev pub bodies_for : Collection → List (List TrackedAssignment) → List (List TrackedAssignment)
bodies_for known bodies = sized_bodies (length known.names) bodies

-- the body of a number after some changes
abbrev pub changed_at : Collection → List (List TrackedAssignment) → List BodyChange → ℕ → List TrackedAssignment
changed_at known bodies changes number = slice_index_or (changed_bodies changes (bodies_for known bodies)) number []

-- the changes make the bodies with these numbers those of the collection, and each other one stays or is so too
abbrev pub AreMade : Collection → List (List TrackedAssignment) → List ℕ → List BodyChange → Type 0
AreMade known bodies numbers changes =
    (number : ℕ) →
    (changed_at known bodies changes number ≡ slice_index_or (bodies_of known) number [])
    ⊎ ((list_any (is_at (nat_cmp number)) numbers ≡ false)
    × (changed_at known bodies changes number ≡ slice_index_or (bodies_for known bodies) number []))

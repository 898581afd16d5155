-- How bodies of macros are changed (own).
use Rattle.std.specs.Prelude.{ℕ, ◌-◌, List, [], ◌++◌, fold, length, replicate, set, take}
use Rattle.attr_lists.specs.declared.types.TrackedAssignment.{TrackedAssignment}
use Rattle.attr_search.specs.declared.bodies.BodyChange.{BodyChange}
use Rattle.attr_search.specs.shared.Slotted.{defined_items}

-- the bodies after some changes
abbrev pub changed_bodies : List BodyChange → List (List TrackedAssignment) → List (List TrackedAssignment)
changed_bodies changes bodies = fold (λ bodies change. set bodies change.number (defined_items change.body)) bodies changes

-- as many bodies as the count: the first of those that there were, and empty ones if there were fewer
abbrev pub sized_bodies : ℕ → List (List TrackedAssignment) → List (List TrackedAssignment)
sized_bodies count bodies = take count (bodies ++ replicate (count - length bodies) [])

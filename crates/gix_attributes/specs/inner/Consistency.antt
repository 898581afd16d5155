-- What is true of the fields of each outcome (own).
use Rattle.std.specs.Prelude.{◌≡◌, ℕ, false, List, [], ⊤, None, MatchOption, length, slice_index_or}
use Rattle.std.specs.BTreeSet.{BTreeSet, contains}
use Rattle.std.specs.Ordering.{nat_cmp}
use Rattle.attr_glob.specs.Views.{pattern_view}
use Rattle.attr_search.specs.Matches.{no_pattern}
use Rattle.gix_attributes.specs.Contents.{Wanted}
use Rattle.gix_attributes.specs.Selection.{selection_view}
use Rattle.gix_attributes.specs.inner.Needed.{AreOwnersOf, flags_of}
use Rattle.attr_lists.specs.declared.types.TrackedAssignment.{TrackedAssignment}
use Rattle.gix_attributes.specs.declared.search.outcome.Outcome.TheInside.{Inside}

-- the bodies of the other numbers are empty
abbrev pub AreEmptyElsewhere : BTreeSet ℕ → List (List TrackedAssignment) → Type 0
AreEmptyElsewhere numbers bodies = (number : ℕ) → contains nat_cmp numbers number ≡ false → slice_index_or bodies number [] ≡ []

pub record IsConsistent (o : Inside) : Type 0 where
  pub wanted : o.state.slots.wanted ≡ flags_of (selection_view o.selected.items) (length o.state.slots.answers)
  pub macros : AreEmptyElsewhere o.macros o.state.slots.bodies
  pub owners : MatchOption o.owners ⊤ (λ owners. AreOwnersOf o.state.slots.bodies owners.items.items)
  pub no_pattern : pattern_view o.no_pattern ≡ no_pattern

-- the default of an index past the last selected name
abbrev pub nothing_wanted : Wanted
nothing_wanted = record { name = []; number = None }

-- Lists that are built element by element, flags of a selection, and bodies that are the same.
use Rattle.std.proofs.lemmas.Bool.Decides.{nat_tests}
use Rattle.std.proofs.Common.{◌≤◌, inr, rules, ◌≡◌, ℕ, suc, ◌+◌, ◌<◌, Bool, false, ◌||◌, ◌==◌, List, [], ◌∷◌, ◌++◌, length, get_or, set, take}
use Rattle.std.specs.BTreeSet.{BTreeSet}
use Rattle.std.specs.List.{AllZip, list_any}
use Rattle.std.proofs.lemmas.List.Elements.{same_from_all_zip}
use Rattle.std.proofs.lemmas.Bool.{cases_eq, cases_lt}
use Rattle.std.proofs.lemmas.List.{ext_get_or, get_or-set_other, get_or-set_same, get_or_past, get_or-take, take_more}
use Rattle.attr_lists.specs.shared.MacroNumbers.{ListsMacros}
use Rattle.gix_attributes.proofs.SearchLaws.{repeated}
use Rattle.attr_search.proofs.ForCallers.{at_other, length_changed, length_sized}
use Rattle.std.proofs.Common.{ap, refl, sym, ◌∙◌, arith, replicate}
use Rattle.std.specs.Bool.{Decides}
use Rattle.std.proofs.Math.ListN.{length-map}
use Rattle.std.proofs.lemmas.List.Folds.{list_any-append}
use Rattle.std.proofs.lemmas.List.FromFn.{fill_by_all, get_or-map-range_with_len, length-map-range_with_len}
use Rattle.attr_lists.specs.Collections.{Collection}
use Rattle.attr_lists.specs.Definitions.{macro_body}
use Rattle.attr_lists.specs.declared.types.TrackedAssignment.{TrackedAssignment}
use Rattle.attr_lists.specs.contracts.types.TrackedAssignmentPartialEq.TheImpl as tracked
use Rattle.gix_attributes.specs.Contents.{has_number, is_wanted, bodies_of}
use Rattle.gix_attributes.specs.inner.BodiesMade.{AreMade, bodies_for}
use Rattle.gix_attributes.specs.inner.Consistency.{AreEmptyElsewhere}
use Rattle.gix_attributes.specs.inner.Needed.{flags_of}
use Rattle.gix_attributes.specs.Selection.{selection_view}
use Rattle.attr_search.specs.shared.Slotted.{defined_items}
use Rattle.attr_search.specs.shared.BodyChanges.{changed_bodies, sized_bodies}
use Rattle.attr_search.specs.declared.bodies.BodyChange.{BodyChange}
use Rattle.gix_attributes.specs.declared.search.selected_name.SelectedName.{SelectedName}

-- Which flags are set once some of the names are gone through. Without names all of them are.
pub record AreFlags (flags : List Bool) (count : ℕ) (all : Bool) (selected : List SelectedName) : Type 0 where
  pub same_length : length flags ≡ count
  pub set : (k : ℕ) → k < count → get_or flags k false ≡ all || list_any (has_number k) (selection_view selected)

pub flags_made : (flags : List Bool) (count : ℕ) (all : Bool) (selected done : List SelectedName) → done ≡ selected → all ≡ (length selected == 0) →
    AreFlags flags count all done → flags ≡ flags_of (selection_view selected) count
flags_made flags count all selected done whole empty made =
    grind (arith, nat_tests, fill_by_all (is_wanted (selection_view selected)) flags count false, length-map, set)

-- equal items are one
pub tracked_decides : (x y : TrackedAssignment) → Decides (tracked.ghosts.eq x y) (x ≡ y)
tracked_decides x y = search rules

-- the body at a number
pub body_at : (known : Collection) (number : ℕ) → number < length known.names → get_or (bodies_of known) number [] ≡ macro_body known number
body_at known number lt = get_or-map-range_with_len (macro_body known) 0 (length known.names) number number [] lt (omega arith)

pub length_bodies : (known : Collection) → length (bodies_of known) ≡ length known.names
length_bodies known = length-map-range_with_len (macro_body known) 0 (length known.names)

-- one more body that is the same
pub bodies_more : (bodies : List (List TrackedAssignment)) (known : Collection) (number : ℕ) → number < length bodies →
    number < length known.names → take number bodies ≡ take number (bodies_of known) → get_or bodies number [] ≡ macro_body known number →
    take (number + 1) bodies ≡ take (number + 1) (bodies_of known)
bodies_more bodies known number lt lt' so_far here =
    grind (arith, nat_tests, length_bodies known, body_at known number lt', take_more (bodies_of known) number, take_more bodies number)

-- bodies that are the same are so at each number
pub bodies_same_at : (bodies : List (List TrackedAssignment)) (known : Collection) (number : ℕ) → number < length known.names →
    bodies ≡ bodies_of known → get_or bodies number [] ≡ macro_body known number
bodies_same_at bodies known number lt same = ap (λ l. get_or l number []) same ∙ body_at known number lt

-- one more change comes last
changed_push : (changes : List BodyChange) (change : BodyChange) (bodies : List (List TrackedAssignment)) →
    changed_bodies (changes ++ change ∷ []) bodies ≡ set (changed_bodies changes bodies) change.number (defined_items change.body)
changed_push [] change bodies = refl
changed_push (c ∷ changes) change bodies = changed_push changes change (set bodies c.number (defined_items c.body))

padded_at : (bodies : List (List TrackedAssignment)) (n k : ℕ) → get_or (bodies ++ replicate n []) k [] ≡ get_or bodies k []
padded_at (b ∷ bodies) n (suc k) = padded_at bodies n k
padded_at bodies n k = grind (arith, nat_tests, repeated)

-- a body stays what it was
pub sized_at : (count : ℕ) (bodies : List (List TrackedAssignment)) (k : ℕ) → k < count → get_or (sized_bodies count bodies) k [] ≡ get_or bodies k []
sized_at count bodies k lt = grind (arith, nat_tests, get_or-take, padded_at)

-- one more number, whose body is changed
pub made_by_change : (known : Collection) (bodies : List (List TrackedAssignment)) (done : List ℕ) (changes changes' : List BodyChange)
    (change : BodyChange) → changes' ≡ changes ++ change ∷ [] → change.number < length known.names →
    defined_items change.body ≡ macro_body known change.number → AreMade known bodies done changes →
    AreMade known bodies (done ++ change.number ∷ []) changes'
made_by_change known bodies done changes changes' change pushed lt same made =
    grind (arith, changed_push, get_or-set_same, length_changed, length_sized, body_at, get_or-set_other, list_any-append, at_other, cases_eq)

-- one more number, whose body is the same
pub made_by_same : (known : Collection) (bodies : List (List TrackedAssignment)) (done : List ℕ) (changes : List BodyChange) (number : ℕ) →
    get_or (bodies_for known bodies) number [] ≡ get_or (bodies_of known) number [] → AreMade known bodies done changes →
    AreMade known bodies (done ++ number ∷ []) changes
made_by_same known bodies done changes number same made = grind (arith, nat_tests, list_any-append, at_other, cases_eq)

-- past the names there are no bodies
pub same_past : (known : Collection) (bodies : List (List TrackedAssignment)) (number : ℕ) → length known.names ≤ number →
    get_or (bodies_for known bodies) number [] ≡ get_or (bodies_of known) number []
same_past known bodies number past = grind (arith, nat_tests, get_or_past, length_sized, length_bodies)

-- at first nothing is changed
pub made_first : (known : Collection) (bodies : List (List TrackedAssignment)) → AreMade known bodies [] []
made_first known bodies = λ k. inr (refl, refl)

neither : (p : ℕ → Bool) (xs ys : List ℕ) → list_any p (xs ++ ys) ≡ false → (list_any p xs ≡ false) × (list_any p ys ≡ false)
neither p xs ys none = grind (arith, nat_tests, list_any-append)

-- after the numbers of both, all bodies are those of the collection
pub made_all : (known : Collection) (bodies : List (List TrackedAssignment)) (macros own : BTreeSet ℕ) (changes : List BodyChange) →
    AreEmptyElsewhere macros bodies → ListsMacros own known →
    AreMade known bodies (([] ++ macros.keys) ++ own.keys) changes →
    changed_bodies changes (bodies_for known bodies) ≡ bodies_of known
made_all known bodies macros own changes elsewhere listed made =
    let base = bodies_for known bodies in
    let len : length base ≡ length known.names = length_sized (length known.names) bodies in
    ext_get_or [] (changed_bodies changes base) (bodies_of known)
    (length_changed changes base ∙ len ∙ sym (length_bodies known))
    (λ k lt. grind (arith, nat_tests, length_changed, neither, sized_at, body_at))

-- a collection's bodies of other numbers are empty
pub listed_elsewhere : (known : Collection) (macros : BTreeSet ℕ) → ListsMacros macros known → AreEmptyElsewhere macros (bodies_of known)
listed_elsewhere known macros listed = grind (arith, nat_tests, body_at, get_or_past, length_bodies, cases_lt)

-- the same beside copies of the numbers and of the bodies
pub copied_elsewhere : (C : ℕ → ℕ → Type 0) → ((x y : ℕ) → C x y → y ≡ x) → (macros copy : BTreeSet ℕ)
    (bodies bodies' : List (List TrackedAssignment)) →
    AllZip C macros.keys copy.keys → bodies' ≡ bodies → AreEmptyElsewhere macros bodies → AreEmptyElsewhere copy bodies'
copied_elsewhere C same macros copy bodies bodies' copied is elsewhere = grind (arith, nat_tests, same_from_all_zip)

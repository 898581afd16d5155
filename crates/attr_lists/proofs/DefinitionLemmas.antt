-- Definitions of macros, by list.
use Rattle.std.proofs.Common.{◌≡◌, ℕ, not, List, [], ◌∷◌, ◌++◌, map, filter, refl, arith}
use Rattle.std.proofs.lemmas.Bool.{cases_Bool, cond-true, cond-false}
use Rattle.std.proofs.lemmas.List.{append-nil, map-append}
use Rattle.std.proofs.lemmas.List.Elements.{filter-append}
use Rattle.attr_lists.specs.declared.types.TrackedAssignment.{TrackedAssignment}
use Rattle.attr_lists.specs.Definitions.{bodies_named, bodies_of_list, definition_of}
use Rattle.attr_lists.specs.Definitions.{is_of_list, of_other_lists}
use Rattle.attr_lists.specs.ListViews.{Entry}
use Rattle.attr_lists.specs.Collections.{MacroDefinition}

-- what is not under a list id stays so
pub of_other_lists-again : (list_id : ℕ) (ds : List MacroDefinition) → of_other_lists list_id (of_other_lists list_id ds) ≡ of_other_lists list_id ds
of_other_lists-again list_id [] = refl
of_other_lists-again list_id (d ∷ ds) = grind (arith, filter, cond-true, cond-false, cases_Bool, of_other_lists-again list_id ds)

pub of_other_lists-append : (list_id : ℕ) (xs ys : List MacroDefinition) → of_other_lists list_id (xs ++ ys) ≡ of_other_lists list_id xs ++
    of_other_lists
    list_id ys
of_other_lists-append list_id xs ys = filter-append (λ d. not (is_of_list list_id d)) xs ys

-- of the bodies under a list id none is another list's
pub of_other_lists-own : (list_id : ℕ) (bodies : List (List TrackedAssignment)) → of_other_lists list_id (map (definition_of list_id) bodies) ≡ []
of_other_lists-own list_id [] = refl
of_other_lists-own list_id (body ∷ bodies) = grind (arith, cond-false, of_other_lists-own list_id bodies)

-- definitions of the list leave those of others as they are
pub of_other_lists-more : (list_id : ℕ) (old : List MacroDefinition) (bodies : List (List TrackedAssignment)) → of_other_lists list_id
    (old ++ map (definition_of list_id) bodies) ≡ of_other_lists list_id old
of_other_lists-more list_id old bodies = grind (arith, of_other_lists-append, of_other_lists-own, append-nil)

-- a line defines first
pub bodies_named-cons : (name : List ℕ) (entry : Entry) (entries : List Entry) → bodies_named name (entry ∷ entries) ≡ bodies_named name
    (entry ∷ []) ++ bodies_named name entries
bodies_named-cons name entry entries = grind (arith, filter-append, map-append, filter)

-- the bodies of a list in two parts
pub bodies_of_list-append : (list_id : ℕ) (xs ys : List MacroDefinition)
    → bodies_of_list list_id (xs ++ ys) ≡ bodies_of_list list_id xs ++ bodies_of_list list_id ys
bodies_of_list-append list_id xs ys = grind (arith, filter-append, map-append, filter)

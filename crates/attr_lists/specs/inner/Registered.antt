-- The lists that are registered, each with the macros that its lines define (own).
use Rattle.std.specs.Prelude.{◌≡◌, ◌<◌, ℕ, false, List, [], map, filter, slice_get, Some, All, IsSome}
use Rattle.std.specs.List.{AllPairs}
use Rattle.std.specs.BTreeSet.{BTreeSet, contains}
use Rattle.std.specs.Global.{Global}
use Rattle.std.specs.Ordering.{nat_cmp}
use Rattle.std.specs.declared.rc.Rc.{Rc}
use Rattle.attr_lists.specs.Collections.{NumberedBody, RegisteredList}
use Rattle.attr_lists.specs.Definitions.{bodies_named, bodies_of_number}
use Rattle.attr_lists.specs.ListViews.{Entry}
use Rattle.attr_lists.specs.inner.NameSteps.{has_name_at}
use Rattle.attr_lists.specs.declared.name_table.registered.ListMacros.{ListMacros}
use Rattle.attr_lists.specs.declared.types.Metadata.{Metadata}
use Rattle.attr_lists.specs.declared.types.TrackedAssignment.{TrackedAssignment}

-- a macro with its body, shared by counting
abbrev pub SharedMacro : Type 0
SharedMacro = Rc Metadata Global

abbrev pub numbered_body : SharedMacro → NumberedBody
numbered_body m = record { number = m.value.id.0; body = m.value.macro_attributes.items }

abbrev pub registered_view : ListMacros → RegisteredList
registered_view list = record { list_id = list.list_id; macros = map numbered_body list.macros.items }

-- the lists that are registered
abbrev pub registered_views : List ListMacros → List RegisteredList
registered_views lists = map registered_view lists

-- each list id is greater than those before it
abbrev pub AreAscending : List RegisteredList → Type 0
AreAscending lists = AllPairs (λ x y. x.list_id < y.list_id) lists

-- this list id is greater than those of the lists
abbrev pub IsAbove : ℕ → List RegisteredList → Type 0
IsAbove list_id lists = All (λ l. l.list_id < list_id) lists

-- the list with this list id has this index
abbrev pub IsIndexOf : ℕ → List RegisteredList → ℕ → Type 0
IsIndexOf list_id lists index = (list : RegisteredList) × (slice_get lists index ≡ Some list) × (list.list_id ≡ list_id)

-- the list has no body of a number that isn't among these
abbrev pub ListsBodies : BTreeSet ℕ → List NumberedBody → Type 0
ListsBodies numbers list = (number : ℕ) → contains nat_cmp numbers number ≡ false → bodies_of_number number list ≡ []

-- the bodies of the name, line by line
abbrev pub bodies_of_name : List (List ℕ) → List NumberedBody → List ℕ → List (List TrackedAssignment)
bodies_of_name names list name = map (λ b. b.body) (filter (λ b. has_name_at names name b.number) list)

-- the name has the same bodies in the list and in the lines
abbrev pub AgreesOn : List (List ℕ) → List NumberedBody → List Entry → List ℕ → Type 0
AgreesOn names list lines name = bodies_of_name names list name ≡ bodies_named name lines

-- the line defines the macro of this name with this body
pub record Defines (line : Entry) (name : List ℕ) (body : List TrackedAssignment) : Type 0 where
  pub macro : IsSome line.macro
  pub named : name ≡ line.pattern.text
  pub items : body ≡ line.items

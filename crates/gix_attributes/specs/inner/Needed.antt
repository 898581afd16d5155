-- Which attributes the answers for selected ones depend on (own).
use Rattle.std.specs.Prelude.{◌≡◌, ℕ, ◌+◌, ◌<◌, ◌⊎◌, Bool, true, false, not, List, [], length, map, replicate, All, slice_index_or}
use Rattle.std.specs.List.{Contains, count_by, filter_map, flat_map, range_with_len}
use Rattle.std.specs.List.Sorted.{IsNonDecreasingBy}
use Rattle.attr_lists.specs.Collections.{Collection}
use Rattle.attr_lists.specs.declared.types.TrackedAssignment.{TrackedAssignment}
use Rattle.gix_attributes.specs.Contents.{Content, Wanted, bodies_of, initial_content, is_wanted, looked_up}
use Rattle.gix_attributes.specs.declared.search.needed.BodyItem.{BodyItem}
use Rattle.gix_attributes.specs.declared.search.selected_name.SelectedName.{SelectedName}

-- for each number below a count whether it is wanted
abbrev pub flags_of : List Wanted → ℕ → List Bool
flags_of selection count = map (is_wanted selection) (range_with_len 0 count)

-- the flag of the number is set
abbrev pub IsFlagSet : List Bool → ℕ → Type 0
IsFlagSet flags number = slice_index_or flags number false ≡ true

-- a set has each number whose flag is set
abbrev pub HasFlags : List Bool → (ℕ → Bool) → Type 0
HasFlags flags has = (a : ℕ) → IsFlagSet flags a → has a ≡ true

-- a set has each macro whose body has an item of an attribute that the set has
abbrev pub IsClosedFor : List (List TrackedAssignment) → (ℕ → Bool) → Type 0
IsClosedFor bodies has = (m : ℕ) → All (λ i. has i.id.0 ≡ true → has m ≡ true) (slice_index_or bodies m [])

-- The flags of n attributes that are needed for a selection are set. Those past the flags count as needed.
pub record AreNeeded (n : ℕ) (bodies : List (List TrackedAssignment)) (selection : List Wanted) (flags : List Bool) : Type 0 where
  -- each attribute has a flag
  pub count : length flags ≡ n
  -- each selected attribute is needed
  pub selected : (a : ℕ) → slice_index_or (flags_of selection n) a false ≡ true → slice_index_or flags a false ≡ true
  -- a macro is needed if its body has an item of a needed attribute
  pub closed : (m : ℕ) → All (λ i. slice_index_or flags i.id.0 true ≡ true → slice_index_or flags m true ≡ true)
      (slice_index_or bodies m [])
  -- without a selection all are needed
  pub all : length selection ≡ 0 → flags ≡ replicate n true
  -- no others are: each closed set that has the selected attributes has all needed ones
  pub least : (has : ℕ → Bool) → HasFlags (flags_of selection n) has → IsClosedFor bodies has → HasFlags flags has

-- an item of the body of a macro
abbrev pub body_item : ℕ → TrackedAssignment → BodyItem
body_item owner item = record { attribute = item.id.0; owner = owner }

-- the items of the body of a macro
abbrev pub body_items : List (List TrackedAssignment) → ℕ → List BodyItem
body_items bodies owner = map (body_item owner) (slice_index_or bodies owner [])

-- the items of the bodies of some macros
abbrev pub items_with : List (List TrackedAssignment) → List ℕ → List BodyItem
items_with bodies owners = flat_map (body_items bodies) owners

-- the items of all bodies are among these
abbrev pub HaveBodies : List (List TrackedAssignment) → List BodyItem → Type 0
HaveBodies bodies items = (m : ℕ) → All (Contains items) (body_items bodies m)

-- the numbers of selected names, of those that have one
abbrev pub numbers_of : List SelectedName → List ℕ
numbers_of selected = filter_map (λ s. s.number) selected

-- a set has the macros of items
abbrev pub HasOwners : List BodyItem → (ℕ → Bool) → Type 0
HasOwners items has = All (λ i. has i.owner ≡ true) items

-- a set has the macro of each item whose attribute it has
abbrev pub IsClosedOver : List BodyItem → (ℕ → Bool) → Type 0
IsClosedOver items has = All (λ i. has i.attribute ≡ true → has i.owner ≡ true) items

-- no flags are set but those that each allowed set has
abbrev pub SetsOnly : List Bool → List Bool → ((ℕ → Bool) → Type 0) → Type 0
SetsOnly flags flags' IsAllowed = (has : ℕ → Bool) → HasFlags flags has → IsAllowed has → HasFlags flags' has

-- the items of all bodies and no others, in the order of their attributes, so that the owners of an attribute stand together
pub record AreOwnersOf (bodies : List (List TrackedAssignment)) (items : List BodyItem) : Type 0 where
  pub order : IsNonDecreasingBy (λ i. i.attribute) items
  pub all : HaveBodies bodies items
  pub owners : All (λ i. i.owner < length bodies) items
  pub only : (has : ℕ → Bool) → IsClosedFor bodies has → IsClosedOver items has

-- the flag of each item's macro is set
abbrev pub AreOwnersSet : List Bool → List BodyItem → Type 0
AreOwnersSet flags items = All (λ i. IsFlagSet flags i.owner) items

-- the flag of each item's macro is set, if that of its attribute is and the attribute is not on the stack
abbrev pub AreClosedBut : List ℕ → List Bool → List BodyItem → Type 0
AreClosedBut stack flags items =
    All (λ i. IsFlagSet flags i.attribute → Contains stack i.attribute ⊎ IsFlagSet flags i.owner) items

-- how many flags are not set
abbrev pub count_unset : List Bool → ℕ
count_unset flags = count_by not flags

-- Flags and a stack after some attributes were marked: the number of each flag that was set is on the stack.
pub record IsMarked (flags : List Bool) (stack : List ℕ) (flags' : List Bool) (stack' : List ℕ) : Type 0 where
  pub count : length flags' ≡ length flags
  pub set : (a : ℕ) → IsFlagSet flags a → IsFlagSet flags' a
  pub pushed : (a : ℕ) → IsFlagSet flags' a → Contains stack' a ⊎ IsFlagSet flags a
  pub stays : (a : ℕ) → Contains stack a → Contains stack' a
  pub stacked : All (IsFlagSet flags) stack → All (IsFlagSet flags') stack'
  pub left : length stack' + count_unset flags' ≡ length stack + count_unset flags

-- An outcome that was initialised for the selected texts. Its searches skip what these don't depend on.
pub record IsNarrowed (known : Collection) (texts : List (List ℕ)) (held : Content) : Type 0 where
  pub content : held ≡ record (initial_content known texts) { needed = held.needed }
  pub needed : AreNeeded (length known.names) (bodies_of known) (looked_up known.names texts) held.needed

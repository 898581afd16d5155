-- A list that is registered under a list id that no list of the collection had, as the crates above see it.
use Rattle.std.proofs.Common.{arith, ◌≡◌, ℕ, ◌<◌, ◌-◌, true, List, ◌++◌, length, get_or, map, All, slice_get, Option, Some, None, unwrap_or}
use Rattle.std.proofs.Common.{[], option_map, refl, sym, ap, subst}
use Rattle.std.specs.Prelude.{bytes_eq}
use Rattle.std.specs.List.{IsDistinct}
use Rattle.std.proofs.lemmas.Option.{get_or_from_slice_get, slice_get_within}
use Rattle.std.proofs.lemmas.List.Elements.{All-nil}
use Rattle.attr_lists.specs.Collections.{Collection, MacroDefinition}
use Rattle.attr_lists.specs.Definitions.{HoldsList, IsSoundCollection, RegistersAs, bodies_named, definition_of}
use Rattle.attr_lists.specs.Definitions.{definitions_for, definitions_of, is_registered, macro_body}
use Rattle.attr_lists.specs.ListViews.{Entry}
use Rattle.attr_lists.specs.Numbers.{AreNamed, IsNumberOf, numbered_lines}
use Rattle.attr_lists.specs.declared.types.TrackedAssignment.{TrackedAssignment}
use Rattle.attr_lists.proofs.NameTableLaws.{added_for}
use Rattle.attr_lists.proofs.NamedDefinitions.{number_at}

-- a list that a collection holds is registered
pub held_registered : (known : Collection) (list_id : ℕ) (entries : List Entry) → HoldsList known list_id entries → is_registered known list_id ≡ true
held_registered known list_id entries held = held.registered

-- the definitions of a name after a list is registered
pub registered_for : (old new : Collection) (list_id : ℕ) (entries : List Entry) → IsSoundCollection old → RegistersAs list_id entries old new
    → (name : List ℕ) → definitions_for new name
    ≡ definitions_for old name ++ map (definition_of list_id) (bodies_named name (numbered_lines new.names entries))
registered_for old new list_id entries sound registers name = grind (arith, added_for)

-- of names that differ, the definitions of a number are those of its name
pub definitions_by_name : (known : Collection) (number : ℕ) → IsDistinct bytes_eq known.names → number < length known.names
    → definitions_of known number ≡ definitions_for known (get_or known.names number [])
definitions_by_name known number distinct lt =
    sym (ap (λ o. unwrap_or (option_map (definitions_of known) o) []) (number_at known.names number distinct lt))

last_of : (P : List TrackedAssignment → Type 0) (ds : List MacroDefinition) → P [] → All (λ d. P d.body) ds → (o : Option MacroDefinition)
    → slice_get ds (length ds - 1) ≡ o → P (unwrap_or (option_map (λ d. d.body) o) [])
last_of P ds none all None e = none
last_of P ds none all (Some d) e =
    let lt = slice_get_within ds (length ds - 1) d e in
    subst (λ (x : MacroDefinition). P x.body) (get_or_from_slice_get ds (length ds - 1) d d e) (all (length ds - 1) d lt)

-- the items of a body have numbers of names
pub body_within : (known : Collection) (number : ℕ) → IsSoundCollection known
    → All (λ (item : TrackedAssignment). item.id.0 < length known.names) (macro_body known number)
body_within known number sound =
    let ds = definitions_of known number in
    let Within : List TrackedAssignment → Type 0 = All (λ (item : TrackedAssignment). item.id.0 < length known.names) in
    last_of Within ds (All-nil (λ (item : TrackedAssignment). item.id.0 < length known.names)) (sound.within number)
    (slice_get ds (length ds - 1)) refl

-- and those of their names
pub body_named : (known : Collection) (number : ℕ) → IsSoundCollection known → AreNamed known.names (macro_body known number)
body_named known number sound =
    let ds = definitions_of known number in
    last_of (AreNamed known.names) ds (All-nil (λ (i : TrackedAssignment). IsNumberOf known.names i.inner.name i.id)) (sound.named number)
    (slice_get ds (length ds - 1)) refl

-- Steps that change the entries of names (own).
use Rattle.std.specs.Prelude.{◌≡◌, ℕ, ◌<◌, ◌⊎◌, List, [], ◌++◌, length, map, Result, OnOk}
use Rattle.attr_lists.specs.declared.name_table.entry.NameEntry.{NameEntry}
use Rattle.attr_lists.specs.Collections.{NumberedBody}
use Rattle.attr_lists.specs.Definitions.{bodies_of_number, definition_of, of_other_lists}
use Rattle.attr_lists.specs.inner.EntryViews.{definitions_at, definitions_view, AreEntries, IsEntry}

-- the bodies were appended to the definitions of their names
abbrev pub AddsDefinitions : ℕ → List NumberedBody → List NameEntry → List NameEntry → Type 0
AddsDefinitions list_id list old new =
    (number : ℕ) → number < length old →
    definitions_at new number ≡ definitions_at old number ++ map (definition_of list_id) (bodies_of_number number list)

-- the definitions of all other lists stay
abbrev pub KeepsOtherDefinitions : ℕ → List NameEntry → List NameEntry → Type 0
KeepsOtherDefinitions list_id old new =
    (number : ℕ) → of_other_lists list_id (definitions_at new number) ≡ of_other_lists list_id (definitions_at old number)

-- the macros of a list were added to the definitions of their names, or some of them if memory ran out; those of other lists stay
pub record DefinesMacros {X E : Type 0} (result : Result X E) (list_id : ℕ) (list : List NumberedBody) (old new : List NameEntry) : Type 0 where
  pub ok : OnOk result (AddsDefinitions list_id list old new)
  pub others : KeepsOtherDefinitions list_id old new
  pub entries : AreEntries old → AreEntries new

-- a list's definitions of a name were removed from its entry
pub record RemovesFrom (list_id : ℕ) (old new : NameEntry) : Type 0 where
  pub definitions : definitions_view new ≡ of_other_lists list_id (definitions_view old)
  pub entry : (number : ℕ) → IsEntry number old → IsEntry number new

-- the list's definitions of a name were removed, or the list has no body of it, and its definitions stay
pub record RemovesListed (list_id : ℕ) (list : List NumberedBody) (old new : List NameEntry) : Type 0 where
  pub definitions : (number : ℕ) → (definitions_at new number ≡ of_other_lists list_id (definitions_at old number))
      ⊎ ((bodies_of_number number list ≡ []) × (definitions_at new number ≡ definitions_at old number))
  pub entries : AreEntries old → AreEntries new

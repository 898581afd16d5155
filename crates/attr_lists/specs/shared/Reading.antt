-- What is read with the numbers of its names (own).
use Rattle.std.specs.Prelude.{◌≡◌, ℕ, Bool, List, Result, Ok, Err, MatchResult, OnErr, take}
use Rattle.attr_glob.specs.declared.search.pattern.Mapping.{Mapping}
use Rattle.attr_lists.specs.Collections.{Collection}
use Rattle.attr_lists.specs.Definitions.{IsSoundCollection}
use Rattle.attr_lists.specs.KeptLists.{kept_list_where, dropped_lines}
use Rattle.attr_lists.specs.ListViews.{Entry, entries_view}
use Rattle.attr_lists.specs.Numbers.{AppendsNames, names_in, numbered_lines, with_names}
use Rattle.attr_lists.specs.declared.types.Dropped.{Dropped}
use Rattle.attr_lists.specs.declared.types.Value.{Value}

-- what is read has the numbers of its names, of which new ones were inserted; of what is refused, some may have been
abbrev pub ReadsNumbered : {X Y : Type 0} → (X → List (List ℕ)) → (List (List ℕ) → X → X) → Result X Y → List (List ℕ) → List (List ℕ)
    → Result X Y → Type 0
ReadsNumbered names number plain old new read =
    MatchResult plain
    (λ x. (new ≡ with_names old (names x)) × (read ≡ Ok (number new x)))
    (λ refusal. AppendsNames old new × (read ≡ Err refusal))

-- the lines have the numbers of their names, of which new ones were inserted in order
pub record NumbersLines (entries : List Entry) (old new : List (List ℕ)) (now : List Entry) : Type 0 where
  pub names : new ≡ with_names old (names_in entries)
  pub lines : now ≡ numbered_lines new entries

-- the lines that a list keeps of a buffer were read with the numbers of their names, and the others were dropped
pub record IsReadWith (allow_macros : Bool) (bytes : List ℕ) (old new : List (List ℕ)) (mappings : List (Mapping Value))
    (dropped : List Dropped) : Type 0 where
  pub numbered : NumbersLines (kept_list_where allow_macros bytes) old new (entries_view mappings)
  pub left_out : dropped ≡ dropped_lines bytes

-- a collection with the first of its names alone
abbrev pub with_first : ℕ → Collection → Collection
with_first count known = record { names = take count known.names; lists = known.lists }

-- no list was added or removed, only names may have been, and the collection is sound; if memory ran out, nothing changed
pub record AddsNames {X E : Type 0} (result : Result X E) (old new : Collection) : Type 0 where
  pub lists : new.lists ≡ old.lists
  pub sound : IsSoundCollection new
  pub err : OnErr result (new ≡ old)

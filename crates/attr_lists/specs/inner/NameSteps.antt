-- Numbers that names have, and steps that insert names (own).
use Rattle.std.specs.Prelude.{◌≡◌, ℕ, Bool, false, List, [], ◌∷◌, ◌++◌, slice_get, bytes_eq, unwrap_or, option_map, Some}
use Rattle.std.specs.Prelude.{Result, Ok, Err, IfOk, OnOk, OnErr, MatchResult}
use Rattle.attr_text.specs.Items.{checked_name}
use Rattle.attr_lists.specs.LineViews.{refusal_view}
use Rattle.attr_lists.specs.Numbers.{AppendsNames, number_of, with_name, with_names}
use Rattle.attr_lists.specs.declared.parse.AttrError.{AttrError}

-- the new ones of these names were inserted, in order; if memory ran out, some may have been
pub record InsertsNames {X E : Type 0} (result : Result X E) (names old new : List (List ℕ)) : Type 0 where
  pub ok : OnOk result (new ≡ with_names old names)
  pub err : OnErr result (AppendsNames old new)

-- what is read is as it has to be; if memory ran out, some of its names may have been inserted
pub record ReadsWithNames {X E : Type 0} (result : Result X E) (IsRead : X → Type 0) (old new : List (List ℕ)) : Type 0 where
  pub ok : IfOk result IsRead
  pub err : OnErr result (AppendsNames old new)

-- the name was appended; if memory ran out, nothing changed
pub record AppendsName {X E : Type 0} (result : Result X E) (name : List ℕ) (old new : List (List ℕ)) : Type 0 where
  pub ok : OnOk result (new ≡ old ++ name ∷ [])
  pub err : OnErr result (new ≡ old)

-- the name stands at this number
abbrev pub has_name_at : List (List ℕ) → List ℕ → ℕ → Bool
has_name_at names name number = unwrap_or (option_map (bytes_eq name) (slice_get names number)) false

-- an item's name has its number, and was inserted if it was new; names stay if no item has such a name
abbrev pub IsItemNumber : List ℕ → List (List ℕ) → List (List ℕ) → Result ℕ AttrError → Type 0
IsItemNumber name old new own =
    MatchResult own
    (λ number. (checked_name name ≡ Ok name) × (new ≡ with_name old name) × (number_of new name ≡ Some number))
    (λ refused. (checked_name name ≡ Err (refusal_view refused)) × (new ≡ old))

-- the same, if memory did not run out; then nothing changed
pub record NumbersItem {E : Type 0} (result : Result (Result ℕ AttrError) E) (name : List ℕ) (old new : List (List ℕ)) : Type 0 where
  pub ok : IfOk result (IsItemNumber name old new)
  pub err : OnErr result (AppendsNames old new)

-- What an item of a line is. The gitattributes page: "listing only the name", "prefixed with a dash `-`", "followed by an equal
-- sign `=` and its value", "prefixed with an exclamation point `!`". A value after `-name` or `!name` is ignored: git does so,
-- and the page is silent.
use Rattle.std.specs.Prelude.{◌≡◌, ◌≢◌, ℕ, true, false, not, ◌==◌, List, [], ◌∷◌, ◌++◌, slice_index, Result, Ok, Err}
use Rattle.std.specs.List.{list_all}
use Rattle.attr_wildmatch.specs.Bytes.{exclamation_mark, hyphen}
use Rattle.attr_text.specs.Items.{equals, Refusal, invalid_name, reserved}
use Rattle.attr_text.specs.Names.{is_valid_name, is_reserved_name}
use Rattle.attr_text.specs.declared.state.State.{State}
use Rattle.attr_text.specs.declared.state.State.TheVariants.{Set, Unset, Value, Unspecified}
use Rattle.attr_text.specs.declared.assignment.Assignment.{Assignment}

-- no `=` is in it
abbrev pub HasNoEquals : List ℕ → Type 0
HasNoEquals text = list_all (λ b. not (b == equals)) text ≡ true

-- neither `-` nor `!` is in front
abbrev pub HasNoMark : List ℕ → Type 0
HasNoMark text = (slice_index text 0 ≢ hyphen) × (slice_index text 0 ≢ exclamation_mark)

-- nothing, or a `=` and any bytes
abbrev pub IsValuePart : List ℕ → Type 0
IsValuePart [] = Unit {0}
IsValuePart (b ∷ value) = b ≡ equals

-- the word has this name and this state
pub data HasForm : List ℕ → List ℕ → State → Type 0 where
  name_alone : (name : List ℕ) → HasNoMark name → HasNoEquals name → HasForm name name Set
  name_and_value : (name value : List ℕ) → HasNoMark name → HasNoEquals name → HasForm (name ++ equals ∷ value) name (Value value)
  after_minus : (name rest : List ℕ) → HasNoEquals name → IsValuePart rest → HasForm (hyphen ∷ (name ++ rest)) name Unset
  after_exclamation_mark : (name rest : List ℕ) → HasNoEquals name → IsValuePart rest →
      HasForm (exclamation_mark ∷ (name ++ rest)) name Unspecified

-- the item that a word is: it is refused if its name is not valid, or else if its name is reserved
pub data IsItem (word : List ℕ) : Result Assignment Refusal → Type 0 where
  accepted : (name : List ℕ) (state : State) → HasForm word name state →
      is_valid_name name ≡ true → is_reserved_name name ≡ false → IsItem word (Ok (record { name = name; state = state }))
  bad_name : (name : List ℕ) (state : State) → HasForm word name state →
      is_valid_name name ≡ false → IsItem word (Err (invalid_name name))
  reserved_name : (name : List ℕ) (state : State) → HasForm word name state →
      is_valid_name name ≡ true → is_reserved_name name ≡ true → IsItem word (Err (reserved name))

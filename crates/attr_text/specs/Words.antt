-- The words of a text. The gitattributes page: "an attributes list, separated by whitespaces": spaces, tabs and carriage returns,
-- as git takes no form feed or vertical tab for one.
use Rattle.std.specs.Prelude.{◌≡◌, ℕ, ◌<◌, true, not, List, [], ◌∷◌, ◌++◌, length}
use Rattle.std.specs.List.{list_all}
use Rattle.std.specs.Str.{IsUtf8}
use Rattle.attr_text.specs.Items.{is_blank}
use Rattle.attr_text.specs.declared.state.State.{State}
use Rattle.attr_text.specs.declared.state.State.TheVariants.{Set, Unset, Value, Unspecified}

-- a run of bytes that are not blanks ends here: at the text's end, or at a blank
abbrev pub EndsRun : List ℕ → Type 0
EndsRun [] = Unit {0}
EndsRun (b ∷ bs) = is_blank b ≡ true

-- the text is blanks, a longest run of other bytes, and a rest
pub record BeginsWith (text gap word rest : List ℕ) : Type 0 where
  pub whole : text ≡ gap ++ (word ++ rest)
  pub blanks : list_all is_blank gap ≡ true
  pub run : list_all (λ b. not (is_blank b)) word ≡ true
  pub some : 0 < length word
  pub longest : EndsRun rest

-- these are the longest runs of bytes that are not blanks, in order, and all else is blanks
abbrev pub AreWords : List ℕ → List (List ℕ) → Type 0
AreWords text [] = list_all is_blank text ≡ true
AreWords text (word ∷ others) = (gap : List ℕ) × (rest : List ℕ) × BeginsWith text gap word rest × AreWords rest others

-- the value, if the state has one, is UTF-8 without blanks
abbrev pub IsPlain : State → Type 0
IsPlain Set = Unit {0}
IsPlain Unset = Unit {0}
IsPlain (Value bytes) = IsUtf8 bytes × (list_all (λ b. not (is_blank b)) bytes ≡ true)
IsPlain Unspecified = Unit {0}

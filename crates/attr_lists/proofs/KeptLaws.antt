-- The macros that a list keeps of a buffer have valid names.
use Rattle.std.proofs.Common.{◌≡◌, ℕ, ◌+◌, Bool, true, not, List, [], ◌∷◌, Option, Some, None, filter, Result, Ok, Err, refl, arith}
use Rattle.std.specs.Prelude.{option_map, drop, length, ◌==◌, ◌||◌, slice_index, if◌then◌else◌}
use Rattle.std.specs.List.{list_all}
use Rattle.std.specs.Option.{option_to_list}
use Rattle.std.proofs.lemmas.List.Folds.{list_all-append}
use Rattle.attr_wildmatch.specs.Bytes.{number_sign}
use Rattle.attr_glob.specs.Patterns.{Reading, reading}
use Rattle.attr_text.specs.Names.{is_valid_name, is_reserved_name}
use Rattle.attr_text.specs.Items.{Refusal, invalid_name, reserved, checked_name, after_blanks}
use Rattle.attr_lists.specs.LineResults.{Target, pattern, macro, LineResult, macro_prefix}
use Rattle.attr_lists.specs.LineResults.{is_macro_definition, macro_of, pattern_of, parts_of, with_items, result_of}
use Rattle.attr_lists.specs.LineResults.{results_from, results_of, lines_in}
use Rattle.attr_lists.specs.ListViews.{Entry}
use Rattle.attr_lists.specs.KeptLists.{macros_valid, kept_lines, kept_list, kept_list_where, defines_no_macro}

-- a macro of a valid name, or no macro
target_valid : Target → Bool
target_valid (pattern read) = true
target_valid (macro name) = is_valid_name name

line_valid : LineResult → Bool
line_valid (Ok given) = target_valid given.target
line_valid (Err refused) = true

-- a name that passes its check is valid
checked-valid : (text name : List ℕ) → checked_name text ≡ Ok name → is_valid_name name ≡ true
checked-valid text name is = by_test is_valid_name is_reserved_name invalid_name reserved is
  where
    by_test : (valid taken : List ℕ → Bool) (f g : List ℕ → Refusal)
        → (if not (valid text) then Err (f text) else if taken text then Err (g text) else Ok text) ≡ Ok name → valid name ≡ true
    by_test valid taken f g is = grind arith

valid-by : (text name items : List ℕ) (number : ℕ) (skipped is_macro : Bool) (checked : Result (List ℕ) Refusal) (found : Option Reading)
    → ((n : List ℕ) → checked ≡ Ok n → is_valid_name n ≡ true)
    → list_all line_valid (option_to_list (if skipped then None else option_map (with_items items number)
    (if is_macro then Some (macro_of checked name number) else option_map (pattern_of text number) found))) ≡ true
unfolding line_valid target_valid
valid-by text name items number skipped is_macro checked found valid = grind arith

result_of-valid : (line : List ℕ) (number : ℕ) → list_all line_valid (option_to_list (result_of line number)) ≡ true
result_of-valid line number =
    let text = after_blanks line in
    let parts = parts_of text in
    let name = drop (length macro_prefix) parts.0 in
    valid-by parts.0 name parts.1 number (length text == 0 || slice_index text 0 == number_sign) (is_macro_definition parts.0)
    (checked_name name) (reading parts.0) (checked-valid name)

results-valid : (number : ℕ) (lines : List (List ℕ)) → list_all line_valid (results_from number lines) ≡ true
results-valid number [] = refl
results-valid number (line ∷ lines) = grind (arith, list_all-append, result_of-valid, results-valid (number + 1) lines)

kept-valid : (lines : List LineResult) → list_all line_valid lines ≡ true → macros_valid (kept_lines lines) ≡ true
unfolding line_valid target_valid
kept-valid [] h = refl
kept-valid (line ∷ lines) h = grind (arith, kept-valid lines)

pub kept_macros_valid : (bytes : List ℕ) → macros_valid (kept_list bytes) ≡ true
kept_macros_valid bytes = kept-valid (results_of bytes) (results-valid 1 (lines_in bytes))

-- what is left of valid macros without the lines that define any
pub valid_without_macros : (entries : List Entry) → macros_valid entries ≡ true → macros_valid (filter defines_no_macro entries) ≡ true
valid_without_macros [] h = refl
valid_without_macros (entry ∷ entries) h = grind (arith, valid_without_macros entries)

pub kept_macros_valid_where : (allow_macros : Bool) (bytes : List ℕ) → macros_valid (kept_list_where allow_macros bytes) ≡ true
kept_macros_valid_where allow_macros bytes = grind (arith, kept_macros_valid, valid_without_macros)

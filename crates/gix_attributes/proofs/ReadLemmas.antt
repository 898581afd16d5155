-- The lines that a list keeps of a buffer were read from pattern texts, none of them negative.
use Rattle.std.proofs.lemmas.Bool.Decides.{nat_tests}
use Rattle.std.proofs.Common.{arith, ◌≡◌, ℕ, ◌+◌, Bool, true, false, List, [], ◌∷◌, Option, Some, None, Result, Ok, Err, refl}
use Rattle.std.specs.Prelude.{⊤, All, option_map, drop, length, ◌==◌, ◌||◌, slice_index, if◌then◌else◌}
use Rattle.std.specs.List.{list_all, cons_option}
use Rattle.std.specs.Option.{option_to_list}
use Rattle.std.specs.Result.{result_ok, result_map_both}
use Rattle.attr_wildmatch.specs.Bytes.{number_sign}
use Rattle.std.proofs.lemmas.Bool.{cond_both}
use Rattle.std.proofs.lemmas.List.Elements.{All-filter, All-nil, All-cons, All-head, All-tail, All-append}
use Rattle.attr_glob.specs.Patterns.{Reading, reading, read_rest, is_negated, without_negation, is_space}
use Rattle.attr_glob.specs.Patterns.{set_where, has_flag, no_sub_dir, ends_with, must_be_dir, negative, absolute}
use Rattle.attr_text.specs.Items.{Refusal, checked_name, after_blanks}
use Rattle.attr_lists.specs.LineResults.{Target, pattern, macro, LineResult, RefusedLine, Given, negative_pattern, macro_prefix}
use Rattle.attr_lists.specs.LineResults.{is_macro_definition, macro_of, pattern_of, target_of, parts_of, with_items, result_of_text, result_of}
use Rattle.attr_lists.specs.LineResults.{results_from, results_of, lines_in}
use Rattle.attr_lists.specs.declared.types.TrackedAssignment.{TrackedAssignment}
use Rattle.attr_lists.specs.declared.types.Dropped.{Dropped}
use Rattle.attr_lists.specs.declared.types.DropReason.{DropReason}
use Rattle.attr_lists.specs.ListViews.{Entry}
use Rattle.attr_lists.specs.KeptLists.{items_read, entry_for, line_read, kept_lines, kept_list, kept_list_where, defines_no_macro}
use Rattle.attr_search.specs.shared.ReadLines.{IsRead, AreRead}

TargetRead : Target → Type 0
TargetRead (pattern read) = (text : List ℕ) × (reading text ≡ Some read) × (has_flag read.mode negative ≡ false)
TargetRead (macro name) = ⊤

LineRead : LineResult → Type 0
LineRead (Ok given) = TargetRead given.target
LineRead (Err refused) = ⊤

-- a mode without the flag
abbrev flags : Bool → Bool → Bool → Bool → ℕ
flags a b c e = set_where a no_sub_dir + set_where b ends_with + set_where c must_be_dir + set_where false negative + set_where e absolute

rest-not_negative : (negated : Bool) (rest : List ℕ) → negated ≡ false → has_flag (read_rest negated rest).mode negative ≡ false
rest-not_negative negated rest e = grind (arith, nat_tests)

OptionRead : Option (Result Target RefusedLine) → Type 0
OptionRead None = ⊤
OptionRead (Some (Ok target)) = TargetRead target
OptionRead (Some (Err refused)) = ⊤

read-macro : (checked : Result (List ℕ) Refusal) (name : List ℕ) (line : ℕ) → OptionRead (Some (macro_of checked name line))
unfolding OptionRead TargetRead
read-macro checked name line = grind (arith, nat_tests)

read-pattern : (text : List ℕ) (line : ℕ) (negated : Bool) (read : Reading) → reading text ≡ Some read
    → (negated ≡ false → has_flag read.mode negative ≡ false)
    → OptionRead (Some (if negated then Err (negative_pattern line text) else Ok (pattern read)))
unfolding OptionRead TargetRead
read-pattern text line negated read e h = grind (arith, nat_tests)

read-found : (text : List ℕ) (line : ℕ) (blank : Bool) → reading text ≡
    (if blank then None else Some (read_rest (is_negated text) (without_negation text)))
    → OptionRead (option_map (pattern_of text line) (if blank then None else Some (read_rest (is_negated text) (without_negation text))))
unfolding OptionRead
read-found text line blank e = grind (arith, nat_tests, read-pattern, rest-not_negative)

target_of-read : (text : List ℕ) (line : ℕ) → OptionRead (target_of text line)
target_of-read text line =
    let name = drop (length macro_prefix) text in
    cond_both (is_macro_definition text) (Some (macro_of (checked_name name) name line)) (option_map (pattern_of text line) (reading text))
    OptionRead (λ _. read-macro (checked_name name) name line) (λ _. read-found text line (list_all is_space (without_negation text)) refl)

read-line : (items : List ℕ) (line : ℕ) (target : Option (Result Target RefusedLine)) → OptionRead target
    → All LineRead (option_to_list (option_map (with_items items line) target))
unfolding OptionRead LineRead
read-line items line target h = grind (arith, nat_tests, All-nil, All-cons)

result_of-read : (line : List ℕ) (number : ℕ) → All LineRead (option_to_list (result_of line number))
result_of-read line number =
    let text = after_blanks line in
    cond_both (length text == 0 || slice_index text 0 == number_sign) None (result_of_text text number)
    (λ result. All LineRead (option_to_list result)) (λ _. All-nil LineRead)
    (λ _. read-line (parts_of text).1 number (target_of (parts_of text).0 number) (target_of-read (parts_of text).0 number))

results-read : (number : ℕ) (lines : List (List ℕ)) → All LineRead (results_from number lines)
results-read number [] = All-nil LineRead
results-read number (line ∷ lines) =
    All-append LineRead (option_to_list (result_of line number)) (results_from (number + 1) lines) (result_of-read line number)
    (results-read (number + 1) lines)

entry-read : (target : Target) (line : ℕ) (items : List TrackedAssignment) → TargetRead target → IsRead (entry_for target line items)
unfolding TargetRead
entry-read target line items h = grind (arith, nat_tests)

kept-given : (given : Given) (left_out : DropReason → Dropped) (read : Result (List TrackedAssignment) DropReason) (others : List Entry)
    → TargetRead given.target → AreRead others
    → AreRead (cons_option (result_ok {E = Dropped} (result_map_both (entry_for given.target given.line) left_out read)) others)
kept-given given left_out read others valid h = grind (arith, nat_tests, All-cons, entry-read)

kept-refused : (refused : RefusedLine) (others : List Entry) → AreRead others → AreRead (cons_option (result_ok (line_read (Err refused))) others)
kept-refused refused others h = grind (arith, nat_tests)

kept-read : (lines : List LineResult) → All LineRead lines → AreRead (kept_lines lines)
unfolding LineRead
kept-read [] h = All-nil IsRead
kept-read (Ok given ∷ lines) h =
    kept-given given (λ reason. record { line = given.line; reason = reason }) (items_read given.items) (kept_lines lines)
    (All-head LineRead (Ok given) lines h) (kept-read lines (All-tail LineRead (Ok given) lines h))
kept-read (Err refused ∷ lines) h = kept-refused refused (kept_lines lines) (kept-read lines (All-tail LineRead (Err refused) lines h))

kept_list-read : (bytes : List ℕ) → AreRead (kept_list bytes)
kept_list-read bytes = kept-read (results_of bytes) (results-read 1 (lines_in bytes))

-- the lines that an addition keeps
pub kept_list_where-read : (allow_macros : Bool) (bytes : List ℕ) → AreRead (kept_list_where allow_macros bytes)
kept_list_where-read true bytes = kept_list-read bytes
kept_list_where-read false bytes = All-filter defines_no_macro IsRead (kept_list bytes) (kept_list-read bytes)

-- What a pattern is matched against, and what is known of a pattern that was read.
use Rattle.std.proofs.Common.{◌≡◌, ℕ, suc, ◌-◌, ◌<◌, ◌≤◌, Bool, true, false, not, ◌||◌, List, [], ◌∷◌, length, get_or}
use Rattle.std.proofs.Common.{position, Option, Some, None, refl, subst, arith}
use Rattle.std.specs.List.{list_any}
use Rattle.std.proofs.lemmas.Bool.Decides.{nat_tests}
use Rattle.std.proofs.lemmas.List.{length-drop}
use Rattle.std.proofs.lemmas.List.Sums.{suffix_len_is}
use Rattle.attr_wildmatch.specs.declared.case.Case.{Case}
use Rattle.attr_glob.specs.Patterns.{Reading, reading, read_rest, is_wildcard, is_suffix, is_negated, without_negation}
use Rattle.attr_glob.specs.Patterns.{has_flag, ends_with, must_be_dir, negative}
use Rattle.attr_wildmatch.specs.Slashes.{is_slash}
use Rattle.attr_wildmatch.specs.Deciding.{text_matches}
use Rattle.attr_glob.specs.Paths.{matched_part, is_directory, PathMatches, path_matches}
use Rattle.attr_glob.specs.BaseNames.{base_name_offset}
use Rattle.attr_wildmatch.proofs.ForCallers.{and_parts, and_both, or_left, or_right, text_match_of_test, test_of_text_match}
use Rattle.attr_glob.proofs.Modes.{added-ends_with}

read_is : (text : List ℕ) (r : Reading) → reading text ≡ Some r → read_rest (is_negated text) (without_negation text) ≡ r
read_is text r h = grind (arith, nat_tests)

-- a pattern that was read has the offset of its first wildcard
pub reading-wildcard : (text : List ℕ) (r : Reading) → reading text ≡ Some r → r.wildcard ≡ position is_wildcard r.text
reading-wildcard text r h = let P : Reading → Type 0 = λ x. x.wildcard ≡ position is_wildcard x.text in subst P (read_is text r h) refl

-- a pattern that was read is to be found at the end where its text is one star and no other wildcard
pub reading-ends_with : (text : List ℕ) (r : Reading) → reading text ≡ Some r → has_flag r.mode ends_with ≡ is_suffix r.text
reading-ends_with text r h = grind (arith, nat_tests, read_is text r h, added-ends_with)

-- what is read after a negation has its flag
pub read_rest-negative : (negated : Bool) (rest : List ℕ) → has_flag (read_rest negated rest).mode negative ≡ negated
read_rest-negative negated rest = grind (arith, nat_tests)

pub path_match_of_test : (case : Case) (r : Reading) (path : List ℕ) (is_dir : Option Bool) → path_matches case r path is_dir ≡ true → PathMatches
    case r path is_dir
path_match_of_test case r path is_dir h = grind (arith, nat_tests, and_parts, text_match_of_test)

pub test_of_path_match : (case : Case) (r : Reading) (path : List ℕ) (is_dir : Option Bool) → PathMatches case r path is_dir → path_matches case r
    path is_dir ≡ true
test_of_path_match case r path is_dir m = grind (arith, nat_tests, and_both, test_of_text_match)

-- where the path's kind fits, an answer for the matched part is that for the path
pub path_answer : (case : Case) (r : Reading) (path part : List ℕ) (is_dir : Option Bool) (answer : Bool) →
    (not (has_flag r.mode must_be_dir) || is_directory is_dir) ≡ true → part ≡ matched_part r path → answer ≡ text_matches case r.text part →
    (answer ≡ true → PathMatches case r path is_dir) × (PathMatches case r path is_dir → answer ≡ true)
path_answer case r path part is_dir answer kind same told = grind (arith, nat_tests, path_match_of_test, and_both, and_parts, test_of_path_match)

list_any-at : (p : ℕ → Bool) (xs : List ℕ) (k : ℕ) → k < length xs → p (get_or xs k 0) ≡ true → list_any p xs ≡ true
list_any-at p (x ∷ xs) (suc k) l h = or_right (p x) (list_any p xs) (list_any-at p xs k (omega arith) h)
list_any-at p xs k l h = grind (arith, nat_tests, or_left)

none_in : (p : ℕ → Bool) (xs : List ℕ) → ((k : ℕ) → k < length xs → p (get_or xs k 0) ≡ false) → list_any p xs ≡ false
none_in p [] h = refl
none_in p (x ∷ xs) h = rw (h 0 (omega arith)) (none_in p xs (λ k l. h (suc k) (omega arith)))

-- the offset after a slash, after which there is no other
pub base_name_offset-found : (path : List ℕ) (offset : ℕ) → 0 < offset → offset ≤ length path → is_slash (get_or path (offset - 1) 0) ≡ true →
    ((k : ℕ) → offset ≤ k → k < length path → is_slash (get_or path k 0) ≡ false) → Some offset ≡ base_name_offset path
base_name_offset-found path offset some inside here tail = grind (arith, nat_tests, suffix_len_is, length-drop, list_any-at)

pub base_name_offset-none : (path : List ℕ) → ((k : ℕ) → k < length path → is_slash (get_or path k 0) ≡ false) → None ≡ base_name_offset path
base_name_offset-none path h = rw (none_in is_slash path h) refl

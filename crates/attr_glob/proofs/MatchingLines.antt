-- A line that matches a path is a candidate for it, so that a search may pass over all others.
use Rattle.attr_glob.proofs.Literals.{text_matches-suffix, text_matches-literal, no_wildcard}
use Rattle.std.proofs.Common.{◌≡◌, ℕ, Bool, true, false, cond, not, ◌||◌, List, ◌∷◌, length, drop, Option, Some, refl, arith, nat_eq}
use Rattle.std.specs.Prelude.{is_none}
use Rattle.std.specs.List.{ends_with as ends_with_list}
use Rattle.std.specs.Cmp.Lexicographic.{pointwise}
use Rattle.std.proofs.lemmas.Bool.Decides.{nat_tests}
use Rattle.std.proofs.lemmas.List.{length-map, drop-map}
use Rattle.attr_wildmatch.specs.declared.case.Case.{Case}
use Rattle.attr_wildmatch.specs.declared.case.Case.TheVariants.{Sensitive, Fold}
use Rattle.attr_glob.specs.BaseNames.{base_name}
use Rattle.attr_glob.specs.Candidates.{has_macro_mode, matches_base_name, name, end, anything, has_key, is_candidate}
use Rattle.attr_glob.specs.Folding.{folded}
use Rattle.attr_wildmatch.specs.Matching.{same_byte}
use Rattle.attr_wildmatch.specs.Deciding.{text_matches}
use Rattle.attr_glob.specs.Paths.{matched_part, is_directory, path_matches}
use Rattle.attr_glob.specs.Patterns.{Reading, reading, has_flag, ends_with, must_be_dir}
use Rattle.attr_wildmatch.proofs.ForCallers.{by_test, and_parts}
use Rattle.attr_glob.proofs.PathLemmas.{reading-wildcard, reading-ends_with}

-- texts are the same byte by byte just if they fold to the same
pub bytewise : (case : Case) (x y : List ℕ) → pointwise (same_byte case) x y ≡ pointwise nat_eq (folded case x) (folded case y)
bytewise case (c ∷ cs) (b ∷ bs) = grind (arith, nat_tests, bytewise Sensitive cs bs, bytewise Fold cs bs)
bytewise case x y = grind (arith, nat_tests)

pub length-folded : (case : Case) (x : List ℕ) → length (folded case x) ≡ length x
length-folded case x = grind (arith, nat_tests, length-map)

pub drop-folded : (case : Case) (n : ℕ) (x : List ℕ) → drop n (folded case x) ≡ folded case (drop n x)
drop-folded case n x = grind (arith, nat_tests, drop-map)

-- an end, byte by byte and folded
pub ends_folded : (case : Case) (value tail : List ℕ) → ends_with_list (same_byte case) value tail
    ≡ ends_with_list nat_eq (folded case value) (folded case tail)
ends_folded case value tail = grind (arith, nat_tests, length-folded, drop-folded, bytewise)

-- a base name that a line's text matches has the line's key
has_key_if_matched : (case : Case) (text : List ℕ) (r : Reading) (base : List ℕ) → reading text ≡ Some r →
    text_matches case r.text base ≡ true →
    (literal : Bool) → is_none r.wildcard ≡ literal → (suffix : Bool) → has_flag r.mode ends_with ≡ suffix →
    has_key case base (cond literal (name r.text) (cond suffix (end (drop 1 r.text)) anything)) ≡ true
has_key_if_matched case text r base read m true literal suffix flag =
    grind (arith, nat_tests, reading-wildcard text r read, bytewise case r.text base, no_wildcard, text_matches-literal)
has_key_if_matched case text r base read m false literal true flag = grind (
  arith,
  nat_tests,
  ends_folded,
  and_parts,
  text_matches-suffix,
  reading-ends_with,
)
has_key_if_matched case text r base read m false literal false flag = refl

-- a line that matches a path is a candidate for its base name
pub matching_line_is_candidate : (case : Case) (text : List ℕ) (r : Reading) (path : List ℕ) (is_dir : Option Bool) →
    reading text ≡ Some r → has_macro_mode r ≡ false → path_matches case r path is_dir ≡ true →
    is_candidate case (base_name path) r ≡ true
matching_line_is_candidate case text r path is_dir read plain m =
    let base = base_name path in
    let w = and_parts (not (has_flag r.mode must_be_dir) || is_directory is_dir) (text_matches case r.text (matched_part r path)) m in
    by_test (matches_base_name r)
    (λ t. grind (arith, nat_tests, has_key_if_matched))
    (λ f. rw (plain, f) refl)

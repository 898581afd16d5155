-- The keys of lines decide between the lines that match a path and the candidates for it.
use Rattle.std.proofs.Common.{ap, ◌≡◌, ℕ, suc, ◌==◌, Bool, true, false, not, ◌||◌, List, ◌∷◌, take, map, position, Option, Some, None, refl}
use Rattle.std.proofs.Common.{sym, ◌∙◌, arith}
use Rattle.std.specs.Prelude.{is_none, slice_get}
use Rattle.std.specs.List.{starts_with}
use Rattle.attr_keys.specs.declared.key.Subject.TheVariants.{Name, Path}
use Rattle.attr_keys.specs.shared.LineKeys.{prefix_of}
use Rattle.attr_keys.specs.shared.KeyContents.{KeyContent}
use Rattle.attr_keys.specs.shared.Meeting.{content_met, content_met_at}
use Rattle.attr_keys.specs.shared.Rows.{has_row, IsFalling}
use Rattle.attr_wildmatch.specs.declared.case.Case.{Case}
use Rattle.attr_glob.specs.BaseNames.{base_name}
use Rattle.attr_glob.specs.Candidates.{has_macro_mode, matches_base_name, is_candidate}
use Rattle.attr_wildmatch.specs.Deciding.{text_matches}
use Rattle.attr_wildmatch.specs.Matching.{same_byte}
use Rattle.attr_glob.specs.Paths.{matched_part, is_directory, path_matches}
use Rattle.attr_glob.specs.Patterns.{Reading, reading, has_flag, is_wildcard, must_be_dir}
use Rattle.attr_glob.specs.shared.LineShapes.{folds, is_tried, key_of_line}
use Rattle.attr_glob.proofs.ForCallers.{matching_line_is_candidate, reading-wildcard, no_wildcard, text_matches-literal, text_matches-front}
use Rattle.attr_glob.proofs.ForCallers.{whole_met, front_met, end_met, bytewise, falling_indexes, passes}
use Rattle.attr_wildmatch.proofs.ForCallers.{by_test, and_parts}
use Rattle.attr_search.specs.inner.Trying.{AreTried}

-- a line that is tried is a candidate
tried_is_candidate : (case : Case) (path : List ℕ) (line : Reading) → is_tried case path line ≡ true → is_candidate case (base_name path) line ≡ true
tried_is_candidate case path line h =
    let name = base_name path in
    by_test (has_macro_mode line)
    (λ m. let no : false ≡ true = rw m at h in absurd cc)
    (λ m. by_test (matches_base_name line)
    (λ n. by_test (is_none line.wildcard)
    (λ w. rw (m, n, w) (sym (whole_met case Name line.text name) ∙ (rw (m, n, w) at h)))
    (λ w. grind (arith, by_test, end_met)))
    (λ n. rw (m, n) refl))

-- what a text matches begins with what stands before its first wildcard
begins_so : (case : Case) (text value : List ℕ) (n : ℕ) → position is_wildcard text ≡ Some n → text_matches case text value ≡ true →
    starts_with (same_byte case) value (take n text) ≡ true
begins_so case text value n at m = grind (arith, text_matches-front)

name_front : (case : Case) (text name path : List ℕ) (wildcard : Option ℕ) → wildcard ≡ position is_wildcard text →
    text_matches case text name ≡ true → content_met (folds case) name path (prefix_of Name text wildcard) ≡ true
name_front case text name path None at m =
    whole_met case Name text name ∙ (sym (bytewise case text name) ∙ (sym (text_matches-literal case text name (no_wildcard text (sym at))) ∙ m))
name_front case text name path (Some n) at m =
    by_test (n == 0)
    (λ z. rw z refl)
    (λ z. rw z (front_met case Name (take n text) name ∙ begins_so case text name n (sym at) m))

path_front : (case : Case) (text name path : List ℕ) (wildcard : Option ℕ) → wildcard ≡ position is_wildcard text →
    text_matches case text path ≡ true → content_met (folds case) name path (prefix_of Path text wildcard) ≡ true
path_front case text name path None at m =
    whole_met case Path text path ∙ (sym (bytewise case text path) ∙ (sym (text_matches-literal case text path (no_wildcard text (sym at))) ∙ m))
path_front case text name path (Some n) at m =
    by_test (n == 0)
    (λ z. rw z refl)
    (λ z. rw z (front_met case Path (take n text) path ∙ begins_so case text path n (sym at) m))

-- a line that matches is tried
matching_is_tried : (case : Case) (path text : List ℕ) (line : Reading) (is_dir : Option Bool) → reading text ≡ Some line →
    has_macro_mode line ≡ false → path_matches case line path is_dir ≡ true → is_tried case path line ≡ true
matching_is_tried case path text line is_dir read plain m =
    let name = base_name path in
    let read_wildcard = reading-wildcard text line read in
    let whole = and_parts (not (has_flag line.mode must_be_dir) || is_directory is_dir) (text_matches case line.text (matched_part line path)) m in
    let known = matching_line_is_candidate case text line path is_dir read plain m in
    grind (arith, by_test, whole_met, end_met, name_front, path_front)

met_at : (case : Case) (path : List ℕ) (lines : List Reading) (row : ℕ) →
    content_met_at (folds case) (base_name path) path (slice_get (map key_of_line lines) row) ≡ passes (is_tried case path) (slice_get lines row)
met_at case path (line ∷ lines) (suc row) = met_at case path lines row
met_at case path lines row = grind arith

-- the indexes that were found by the keys
pub found_tried : (case : Case) (path : List ℕ) (lines : List Reading) (keys : List KeyContent) (found : List ℕ) → keys ≡ map key_of_line lines →
    IsFalling found → ((row : ℕ) → has_row found row ≡ content_met_at (folds case) (base_name path) path (slice_get keys row)) →
    AreTried case path lines found
found_tried case path lines keys found is down has =
    record {
      test = is_tried case path;
      tried = falling_indexes (is_tried case path) lines found down
          (λ row. has row ∙ (ap (λ l. content_met_at (folds case) (base_name path) path (slice_get l row)) is ∙ met_at case path lines row));
      candidate = tried_is_candidate case path;
      matching = λ text line is_dir read plain m. matching_is_tried case path text line is_dir read plain m;
    }

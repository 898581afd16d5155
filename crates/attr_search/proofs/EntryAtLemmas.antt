-- The line at an index of a list, and whether it matches a path.
use Rattle.std.proofs.Common.{◌≡◌, ℕ, ◌<◌, Bool, true, false, not, ◌||◌, List, length, map, get_or, Option, Some, None, Ok}
use Rattle.std.proofs.Common.{Err, Result, refl, sym, ap, ◌∙◌, arith}
use Rattle.std.specs.Prelude.{IfOk, IsTrue, MatchOption, ◌↔◌}
use mathlib.Core.List.{map-map}
use Rattle.std.proofs.Math.Logic.{∥∥₁_elim}
use Rattle.std.proofs.Math.Bool.{Bool-set}
use Rattle.std.proofs.lemmas.List.{length-map, get_or-map}
use Rattle.attr_wildmatch.specs.declared.case.Case.{Case}
use Rattle.attr_glob.specs.declared.search.pattern.Mapping.{Mapping}
use Rattle.std.proofs.lemmas.Bool.{false≢true}
use Rattle.attr_wildmatch.specs.Tokens.{Token, tokens}
use Rattle.attr_wildmatch.specs.Deciding.{text_matches}
use Rattle.attr_wildmatch.specs.declared.pairs.Pairs.{Pairs}
use Rattle.attr_wildmatch.specs.Pairs.{has_pair, holds, needs_pair}
use Rattle.attr_wildmatch.proofs.ForCallers.{by_test, match_of_test, pair_in_end, pair_needed}
use Rattle.attr_glob.specs.KeptTokens.{kept_tokens}
use Rattle.attr_glob.specs.Paths.{matched_part, is_directory, path_matches}
use Rattle.attr_glob.specs.Patterns.{Reading, reading, has_flag, negative, must_be_dir}
use Rattle.attr_glob.specs.Views.{patterns_of}
use Rattle.attr_lists.specs.declared.types.Value.{Value}
use Rattle.attr_lists.specs.ListViews.{Entry, entry_view, entries_view}
use Rattle.attr_search.specs.inner.EntryAt.{no_entry, entry_at}
use Rattle.attr_search.specs.shared.ReadLines.{AreRead}

-- the patterns of a list are those of its lines
pub lines_patterns : (ms : List (Mapping Value)) → patterns_of ms ≡ map (λ entry. entry.pattern) (entries_view ms)
lines_patterns ms = sym (map-map (λ (entry : Entry). entry.pattern) entry_view ms)

-- what is known of a line that defines no macro
read_at : (lines : List Entry) (index : ℕ) → AreRead lines → index < length lines → (entry_at lines index).macro ≡ None →
    (text : List ℕ) × (reading text ≡ Some (entry_at lines index).pattern) × (has_flag (entry_at lines index).pattern.mode negative ≡ false)
read_at lines index all lt none = rw none at (all index no_entry lt)

-- the line at an index is that of the mapping there
pub entry_is : (ms : List (Mapping Value)) (index : ℕ) (m : Mapping Value) → index < length ms → m ≡ get_or ms index m →
    entry_at (entries_view ms) index ≡ entry_view m
entry_is ms index m lt is = get_or-map entry_view ms index m no_entry lt ∙ ap entry_view (sym is)

-- else the answer for the matched part is the test of the line
pub matched_answer : {E : Type 0} (ms : List (Mapping Value)) (index : ℕ) (r : Reading) (case : Case) (path part : List ℕ)
    (is_dir : Option Bool) (result : Result Bool E) →
    ∥ AreRead (entries_view ms) ∥₁ → index < length ms → (entry_at (entries_view ms) index).macro ≡ None →
    (entry_at (entries_view ms) index).pattern ≡ r →
    (not (has_flag r.mode must_be_dir) || is_directory is_dir) ≡ true →
    part ≡ matched_part r path →
    IfOk result (λ answer. (text : List ℕ) → reading text ≡ Some r → answer ≡ text_matches case r.text part) →
    IfOk result (λ answer. answer ≡ path_matches case (entry_at (entries_view ms) index).pattern path is_dir)
matched_answer ms index r case path part is_dir (Err e) read lt none here kind same told = tt
matched_answer ms index r case path part is_dir (Ok answer) read lt none here kind same told =
    let n = length-map ms entry_view in
    let test : text_matches case r.text (matched_part r path) ≡ path_matches case (entry_at (entries_view ms) index).pattern path is_dir =
    rw (here, kind) refl in
    ∥∥₁_elim read (Bool-set answer (path_matches case (entry_at (entries_view ms) index).pattern path is_dir))
    (λ lines. grind (arith, read_at))

-- what has a part of a path, the path has
in_part : (k : ℕ) (r : Reading) (path : List ℕ) → has_pair k (matched_part r path) ≡ true → has_pair k path ≡ true
in_part k r path h = grind (arith, pair_in_end)

-- tokens that are kept are those of the text
kept_of_text : (r : Reading) (ts : List Token) → kept_tokens r ≡ Some ts → tokens r.text ≡ Some ts
kept_of_text r ts e = grind (arith, by_test)

-- a pattern whose tokens need more than the path has doesn't match it
lacking_text : (case : Case) (r : Reading) (path : List ℕ) (kinds : Pairs) (kept : Option (List Token)) (answer : Bool) →
    ((k : ℕ) → has_pair k path ≡ true → holds kinds k ≡ true) → kept_tokens r ≡ kept →
    MatchOption kept (IsTrue answer) (λ ts. IsTrue answer ↔ ((k : ℕ) → needs_pair k ts ≡ true → holds kinds k ≡ true)) → answer ≡ false →
    text_matches case r.text (matched_part r path) ≡ true → ⊥
lacking_text case r path kinds None answer covers is told f h = false≢true (sym f ∙ told)
lacking_text case r path kinds (Some ts) answer covers is told f h =
    let part = matched_part r path in
    let matched = match_of_test case ts part (rw (kept_of_text r ts is) at h) in
    false≢true (sym f ∙ told.1 (λ k need. covers k (in_part k r path (pair_needed case k ts part matched need))))

pub lacking : (ms : List (Mapping Value)) (index : ℕ) (r : Reading) (case : Case) (path : List ℕ) (is_dir : Option Bool) (kinds : Pairs)
    (answer : Bool) → (entry_at (entries_view ms) index).pattern ≡ r → ((k : ℕ) → has_pair k path ≡ true → holds kinds k ≡ true) →
    MatchOption (kept_tokens r) (IsTrue answer) (λ ts. IsTrue answer ↔ ((k : ℕ) → needs_pair k ts ≡ true → holds kinds k ≡ true)) →
    answer ≡ false → false ≡ path_matches case (entry_at (entries_view ms) index).pattern path is_dir
lacking ms index r case path is_dir kinds answer here covers told f =
    let apart : text_matches case r.text (matched_part r path) ≡ false =
    by_test (text_matches case r.text (matched_part r path))
    (λ matched. absurd (lacking_text case r path kinds (kept_tokens r) answer covers refl told f matched)) (λ apart. apart) in
    rw (here, apart) (grind arith)

-- The lines that global files drop.
use Rattle.std.proofs.Common.{arith, ◌≡◌, ◌∙◌, ◌⊎◌, ℕ, List, [], ◌++◌, map, sym, Vec, String, Global, string_bytes}
use Rattle.std.proofs.lemmas.Bool.Decides.{nat_tests}
use Rattle.std.proofs.lemmas.List.{append-nil}
use Rattle.gix_attributes.specs.declared.search.Dropped.{Dropped}
use Rattle.check_attr.specs.GlobalFiles.{all_dropped_text}

-- the lines that files drop, for names and lines that are texts and vectors
abbrev pub dropped_report_of : List (String Global) → List (Vec Dropped Global) → List ℕ
dropped_report_of names dropped = all_dropped_text (map string_bytes names) (map (λ lines. lines.items) dropped)

-- the lines of all files are appended
pub all_reported : (text all : List ℕ) (names : List (String Global)) (dropped : List (Vec Dropped Global))
    → text ++ dropped_report_of names dropped ≡ all → (names ≡ []) ⊎ (dropped ≡ []) → text ≡ all
all_reported text all [] dropped so_far none = sym (append-nil text) ∙ so_far
all_reported text all names dropped so_far none = grind (arith, nat_tests, append-nil)

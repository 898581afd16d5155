-- Parts of a script.
use Rattle.std.proofs.lemmas.Bool.Decides.{nat_tests}
use Rattle.std.proofs.Common.{◌≡◌, ℕ, ◌-◌, ◌<◌, List, [], ◌∷◌, ◌++◌, Option, Some, option_map, arith, append_assoc}
use Rattle.std.specs.Prelude.{if◌then◌else◌}
use Rattle.gix_attributes.specs.LinesJoined.{line_feed}
use Rattle.check_attr.specs.inner.ScriptParts.{◌then◌, split_once, if_text, text_lines}

-- one line, and then the others
pub text_lines-step : (n : ℕ) (bytes : List ℕ) → 0 < n →
    text_lines n bytes ≡ ((split_once line_feed bytes then if_text) then λ line. option_map (λ others. (line.0 ∷ others.0, others.1))
    (text_lines (n - 1) line.1))
text_lines-step n bytes h = grind (arith, nat_tests)

-- these lines before others
abbrev pub before : List (List ℕ) → List (List ℕ) × List ℕ → List (List ℕ) × List ℕ
before lines others = (lines ++ others.0, others.1)

-- one line more is read
pub text_lines-more : (whole : Option (List (List ℕ) × List ℕ)) (lines more : List (List ℕ)) (line : List ℕ) (n m : ℕ) (bytes rest : List ℕ) → 0 < n →
    m ≡ n - 1
    → whole ≡ option_map (before lines) (text_lines n bytes)
    → (split_once line_feed bytes then if_text) ≡ Some (line, rest) → more ≡ lines ++ line ∷ []
    → whole ≡ option_map (before more) (text_lines m rest)
text_lines-more whole lines more line n m bytes rest h m_is whole_is first more_is = grind (arith, nat_tests, append_assoc)
